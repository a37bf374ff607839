-- A hearing's part 3 alone. For contracts of private functions; nobody has to believe it. Assumes nothing.
use Rattle.std.specs.Prelude.{◌+◌, max, cond}
use Rattle.frame.specs.declared.Frame.{Frame}
use Rattle.post.specs.declared.Post.{Post}
use Rattle.post.specs.Record.{is_source}
use Rattle.post.specs.Taking.{kept, ticked}

-- `taken` of a post whose table the entries have raised
unfoldable pub taken_raised : Post → Frame → Post
taken_raised p f =
    let q = kept p f.lane f.serial.0 f.stamp.0 f.word in
    cond (is_source p p.lane) (ticked q p.serial.0 (max p.clock.0 f.stamp.0 + 1)) q
