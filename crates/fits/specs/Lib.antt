pub mod Fits
pub mod Printed
pub mod AirBefore
pub mod Longer
