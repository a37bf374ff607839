pub mod Laws
pub mod TextLaws
pub mod NumberLaws
pub mod Decimal
pub mod Here
pub mod Number
pub mod Reading
