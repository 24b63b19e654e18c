-- The demands, of a library of the four calls: what a reader has to read, with the definitions that it names.
use Rattle.std.specs.Prelude.{◌≡◌, List, true, ℕ, ◌≤◌, length}
use Rattle.table.specs.Sound.{sound_table}
use Rattle.laws.specs.Sequences.{Library, Call, Beginning}
use Rattle.laws.specs.Numbers.{Numbers, Replies, Changes}
use Rattle.laws.specs.Neighbours.{Neighbours}
use Rattle.laws.specs.ReadBack.{ReadsBack}
use Rattle.laws.specs.Pulses.{Lasting, Demand3, Settled, Shared, LastTick}
use Rattle.laws.specs.Contacts.{Contacts}

pub record Demands (l : Library) : Type 0 where
  -- 1. "Every call takes all inputs .. Each refusal has its number, and document 01 says what it leaves in the table, the reply and
  -- the pulse buffer."
  pub numbers : Numbers l
  -- 2. "Commands, replies, switch readings and ticks do what document 01 takes from the PM16C manuals: which lines are accepted, what
  -- each changes, what is answered."
  pub changes : Changes l
  pub replies : (t line reply : List ℕ) (sound : sound_table t ≡ true) (enough : 32 ≤ length reply) → Replies l t line reply sound enough
  pub neighbours : Neighbours l
  -- "An accepted setting reads back with its value until something changes it."
  pub read_back : (b : Beginning) (ks : List Call) (k : Call) (later : List Call) (line reply : List ℕ) (enough : 32 ≤ length reply)
      → ReadsBack l b ks k later line reply enough
  pub settled : (b : Beginning) (c : ℕ) → c ≤ 15 → (ks : List Call) → Settled l b c ks
  -- and by 02 §2 "Contacts must be unknown until the channel's first accepted reading", which alone lets it move
  pub contacts : (b : Beginning) (c : ℕ) → c ≤ 15 → (ks : List Call) → Contacts l b c ks
  -- 3. "For any sequence of commands, readings and ticks after a fresh table, refused ones included, where nothing else writes to the
  -- table", of each channel
  pub lasting : Lasting l
  pub pulses : (b : Beginning) (c : ℕ) → c ≤ 15 → (ks : List Call) → Demand3 l b c ks
  -- and of all of them, by the number that may be busy on the card (02 §7)
  pub shared : (b : Beginning) (ks : List Call) → Shared l b ks
  -- "A drive to a target at distance D and speed v .. ends at tick D·1000/v rounded up", counted from its release
  pub last_tick : (b : Beginning) (c : ℕ) → c ≤ 15 → (ks : List Call) (p : ℕ) (later : List Call) → LastTick l b c ks p later
