-- Demand 3, over any sequence of calls after a fresh one, and when a drive ends.
use Rattle.std.specs.Prelude.{Result, Ok, Err}
use Rattle.std.specs.Prelude.{Option, Some, None}
use Rattle.std.specs.Prelude.{◌≡◌, List, [], ◌∷◌, Bool, true, false, not, cond, ℕ, ◌+◌, ◌*◌, ◌-◌, ◌%◌, ◌≤◌, ◌<◌, length, eqb}
use Rattle.digits.specs.Bytes.{put}
use Rattle.digits.specs.Words.{how_many, bits_set}
use Rattle.digits.specs.Places.{ahead}
use Rattle.record.specs.declared.Motor.{Motor}
use Rattle.record.specs.Record.{fresh_motor, let_go}
use Rattle.motor.specs.Switches.{room, blocked}
use Rattle.motor.specs.Sound.{busy, moving}
use Rattle.text.specs.Text.{digit_byte}
use Rattle.drive.specs.declared.Course.TheVariants.{To}
use Rattle.drive.specs.Drives.{lsend}
use Rattle.pulses.specs.Ticks.{rounded_up, to_target, distance_left, room_left}
use Rattle.line.specs.declared.Start.{Start}
use Rattle.line.specs.declared.HeadQuestion.TheVariants.{AskFree}
use Rattle.line.specs.declared.Order.TheVariants.{Go, AskHead}
use Rattle.line.specs.Forms.{order_of}
use Rattle.status.specs.Status.{mode_letter}
use Rattle.table.specs.Layout.{head_of, paused, most_busy, motor_at}
use Rattle.commands.specs.Judging.{judge_where}
use Rattle.table.specs.Sound.{sound_table}
use Rattle.laws.specs.Sequences.{Library, Call, command, after, run, Beginning, from_fresh, ran, never}
use Rattle.laws.specs.Deeds.{Deed, starts, stops, speeds, sets, reads, ticks, pauses, rests, deed}
use Rattle.laws.specs.Neighbours.{listed}
use Rattle.laws.specs.Ledger.{count_at, cw_pulses, ccw_pulses, against, Account, no_drive, takes_ticks, sets_off, course_in, account, ticks_in, Travel, no_travel, travel, settings}

-- "the table is sound" after any sequence, "so 6 never comes"
pub record Lasting (l : Library) : Type 0 where
  pub sound : (b : Beginning) (ks : List Call) → sound_table (ran l b ks) ≡ true
  pub never_six : (b : Beginning) (ks : List Call) (k : Call) → (after l (ran l b ks) k).result % 256 ≡ 6 → ⊥

-- Demand 3, of channel c after the beginning b and the calls ks. Every beginning of a sequence is a sequence, so what
-- is stated here holds of every drive at every moment of it.
module _ (l : Library) (b : Beginning) (c : ℕ) (ks : List Call) where
  -- the table, the account of the last drive, and the way since the last preset
  abbrev pub table_now : List ℕ
  table_now = ran l b ks

  abbrev pub motor_now : Motor
  motor_now = motor_at (ran l b ks) c

  abbrev pub account_now : Account
  account_now = account l c (from_fresh l b) no_drive ks

  abbrev pub travel_now : Travel
  travel_now = travel l c (from_fresh l b) no_travel ks

  -- the settings since fresh
  abbrev pub settings_now : Motor
  settings_now = settings l c (from_fresh l b) fresh_motor ks

  -- the motor after one call more
  abbrev pub motor_next : Call → Motor
  motor_next k = motor_at (after l table_now k).table c

  -- why a drive ends with a call k, and with which end flags: a stop; a switch reading after which "the switch of its direction is
  -- now active and enabled"; a tick that reaches the target; or one that uses the room up. No tick ends a held drive.
  pub data Ends (k : Call) : Type 0 where
    by_stop : (flags : ℕ) → deed c table_now k ≡ stops flags → (motor_next k).ended ≡ flags → Ends k
    by_switch : (n : ℕ) → deed c table_now k ≡ reads n → blocked motor_now.drive.going (motor_next k) ≡ true → (motor_next k).ended ≡ lsend → Ends k
    by_target : deed c table_now k ≡ ticks → takes_ticks account_now ≡ true → to_target motor_now ≡ true → (motor_next k).place ≡ motor_now.drive.target → (motor_next k).ended ≡ 0 → Ends k
    by_room : deed c table_now k ≡ ticks → takes_ticks account_now ≡ true → room motor_now.drive.going (motor_next k) ≡ 0 → (motor_next k).ended ≡ lsend → Ends k

  pub record Demand3 : Type 0 where
    -- "A thousand times the pulses given never exceeds that sum"
    pub never_more : 1000 * account_now.pulses ≤ account_now.sum
    -- "and while the drive lasts the sum is less than a thousand above it"
    pub never_less : account_now.lasts ≡ true → account_now.sum < 1000 * account_now.pulses + 1000
    -- "each drive that demand 2 starts": an accepted start drives, and nothing drives but such a drive; 02 §3: it moves at once unless
    -- pause is on
    pub starting : (k : Call) (s : Start) → deed c table_now k ≡ starts s → sets_off motor_now s ≡ true
        → (busy (motor_next k) ≡ true) × (moving (motor_next k) ≡ not account_now.paused)
    pub lasting : account_now.lasts ≡ busy motor_now
    -- 02 §6: "Keep it in head bytes 4-5, bit c for channel c, held drives included": the bit is set exactly while the drive lasts
    pub listing : listed c table_now ≡ account_now.lasts
    -- and the motor moves exactly while the drive's ticks count
    pub counting : takes_ticks account_now ≡ moving motor_now
    -- what the lines have made of pause is what the table holds
    pub pause : account_now.paused ≡ paused (head_of table_now)
    -- 02 §3: "OFF releases all": what was busy moves, and all else of its drive stays as it was; ON changes nothing of it
    pub releasing : (k : Call) → deed c table_now k ≡ pauses 0 → (moving (motor_next k) ≡ busy motor_now) × ((motor_next k).drive ≡ let_go motor_now.drive)
    pub pausing : (k : Call) → deed c table_now k ≡ pauses 1 → motor_next k ≡ motor_now
    -- "the speeds in force": the account's speed is the one that the table holds, and so are its direction and where it goes
    pub speed : account_now.lasts ≡ true → account_now.speed ≡ motor_now.drive.speed
    pub direction : account_now.lasts ≡ true → account_now.going ≡ motor_now.drive.going
    pub aim : account_now.lasts ≡ true → account_now.aim ≡ course_in motor_now
    -- "CW positive": the pulses of a drive go its way
    pub one_way : account_now.lasts ≡ true → (p : List ℕ) → length p ≡ 64 → against account_now.going (count_at (l.tick table_now p).pulses c) ≡ 0
    -- a drive lasts until something ends it, and a stop or an active switch does: "A stop ends the drive at once"
    pub ending : (k : Call) → busy motor_now ≡ true → busy (motor_next k) ≡ false → Ends k
    pub stopping : (k : Call) (flags : ℕ) → deed c table_now k ≡ stops flags → busy (motor_next k) ≡ false
    pub switching : (k : Call) (n : ℕ) → deed c table_now k ≡ reads n → blocked motor_now.drive.going (motor_next k) ≡ true → busy (motor_next k) ≡ false
    -- "Pulses given are the least of due, room and, for a target, the distance left": no tick goes past either
    pub within : busy motor_now ≡ true → (p : List ℕ) → length p ≡ 64 → let n = count_at (l.tick table_now p).pulses c in
        (cw_pulses n + ccw_pulses n ≤ room_left motor_now) × (to_target motor_now ≡ true → cw_pulses n + ccw_pulses n ≤ distance_left motor_now)
    -- the end flags stay until the next start
    pub flags : (k : Call) → busy motor_now ≡ false → busy (motor_next k) ≡ false → (motor_next k).ended ≡ motor_now.ended
    -- "A motor that stands stopped when the tick comes gets none", nor does a held one, whose drive's ticks do not count
    pub none : takes_ticks account_now ≡ false → (p : List ℕ) → length p ≡ 64 → count_at (l.tick table_now p).pulses c ≡ 0
    -- "Each channel's position is its last accepted preset, or zero, plus the CW pulses given since, less the CCW pulses."
    pub position : motor_now.place + travel_now.ccw ≡ travel_now.preset + travel_now.cw

  -- the channel's settings and contacts are fresh's, and what accepted settings and readings made of them since
  pub record Settled : Type 0 where
    pub limits : motor_now.limits ≡ settings_now.limits
    pub speeds : motor_now.speeds ≡ settings_now.speeds
    pub wiring : motor_now.wiring ≡ settings_now.wiring
    pub setup : motor_now.setup ≡ settings_now.setup

-- 02 §7: "Prove demand 3 once over the largest number of busy motors". After the beginning b and the calls ks:
module _ (l : Library) (b : Beginning) (ks : List Call) where
  -- that number, by the card that the sequence began with
  abbrev pub most : ℕ
  most = most_busy b.card

  -- how many channels have a drive that lasts, held or moving, counted by their accounts
  abbrev pub driving : ℕ
  driving = how_many (λ c. (account_now l b c ks).lasts) 16

  pub record Shared : Type 0 where
    -- "runs at most four motors"
    pub few : driving ≤ most
    -- "decides whether a start is taken": one that passes every other check, and sets its channel off, is 14 exactly where so many have a
    -- drive, and else it is taken
    pub gate : (line reply : List ℕ) (x : ℕ) (s : Start) → 32 ≤ length reply → order_of line ≡ Some (Go x s) → judge_where false (ran l b ks) (Go x s) ≡ (Ok tt)
        → sets_off (motor_at (ran l b ks) x) s ≡ true → (l.command (ran l b ks) line reply).result % 256 ≡ cond (eqb driving most) 14 0
    -- "`STQ?` .. answers R or L and four less that number. On the sixteen card it is 1"
    pub free : (line reply : List ℕ) → 32 ≤ length reply → order_of line ≡ Some (AskHead AskFree) → b.card ≡ 1
        → let text = mode_letter (head_of (ran l b ks)).mode ∷ digit_byte (4 - driving) ∷ [] in
        after l (ran l b ks) (command line reply) ≡ record { result = 512; table = ran l b ks; buffer = put reply 0 text }
    pub formless : (line reply : List ℕ) → 32 ≤ length reply → order_of line ≡ Some (AskHead AskFree) → b.card ≡ 0
        → (l.command (ran l b ks) line reply).result % 256 ≡ 1
    -- "the number of set bits in the busy word": the word that the head holds agrees, and so does its card
    pub word : bits_set (head_of (ran l b ks)).busy ≡ driving
    pub card : (head_of (ran l b ks)).card ≡ b.card

-- "A drive to a target at distance D and speed v, with no stop, SPC or switch reading on its channel and D within room, ends at
-- tick D·1000/v rounded up." A deed that disturbs it so:
unfoldable pub disturbs : Deed → Bool
disturbs (starts s) = false
disturbs (stops flags) = true
disturbs (speeds v) = true
disturbs (sets s) = false
disturbs (reads n) = true
disturbs ticks = false
disturbs (pauses k) = false
disturbs rests = false

-- 02 §3: "01's last-tick formula counts from release". After the calls ks a drive to the place p lasts of which no tick has counted yet:
-- it is held, or it was just released or started. v is the speed in force then; `later` are the calls that follow, any but such.
module _ (l : Library) (b : Beginning) (c : ℕ) (ks : List Call) (p : ℕ) (later : List Call) where
  -- D, and D·1000/v rounded up
  abbrev pub distance : ℕ
  distance = ahead (account_now l b c ks).going (motor_now l b c ks).place p

  abbrev pub last_tick : ℕ
  last_tick = rounded_up (distance * 1000) (account_now l b c ks).speed

  pub record Undisturbed : Type 0 where
    pub lasts : (account_now l b c ks).lasts ≡ true
    pub unticked : (account_now l b c ks).sum ≡ 0
    pub aimed : (account_now l b c ks).aim ≡ To p
    pub within : distance ≤ room (account_now l b c ks).going (motor_now l b c ks)
    pub alone : never l (λ t j. disturbs (deed c t j)) (ran l b ks) later ≡ true

  -- the table and the account after `later`
  abbrev pub table_later : List ℕ
  table_later = run l (ran l b ks) later

  abbrev pub account_later : Account
  account_later = account l c (ran l b ks) (account_now l b c ks) later

  -- how many of the ticks in `later` count
  abbrev pub ticks_later : ℕ
  ticks_later = ticks_in l c (ran l b ks) (account_now l b c ks) later

  pub record LastTick : Type 0 where
    -- it drives as long as fewer ticks that count have come
    pub before : Undisturbed → ticks_later < last_tick → busy (motor_at table_later c) ≡ true
    -- and with that tick, where it counts, it stands stopped at its target, with end flags 0
    pub with :
        Undisturbed → account_later.counting ≡ true → ticks_later + 1 ≡ last_tick → (pulses : List ℕ) → length pulses ≡ 64
        → (busy (motor_at (l.tick table_later pulses).table c) ≡ false) × ((motor_at (l.tick table_later pulses).table c).place ≡ p)
        × ((motor_at (l.tick table_later pulses).table c).ended ≡ 0)
