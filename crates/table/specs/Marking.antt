-- How the code keeps the busy set: one channel at a time, when its record has been written. Nobody need believe it: proofs/SealLaws.antt
-- says that it is the set of all sixteen.
use Rattle.std.specs.Prelude.{ℕ, List}
use Rattle.digits.specs.Bytes.{put}
use Rattle.digits.specs.Words.{marked}
use Rattle.motor.specs.Sound.{busy}
use Rattle.table.specs.Layout.{head_of, set_bytes, motor_at}

-- the table with channel c in its busy set or not, as the record tells
abbrev pub marked_at : List ℕ → ℕ → List ℕ
marked_at t c = put t 4 (set_bytes (marked (busy (motor_at t c)) c (head_of t).busy))
