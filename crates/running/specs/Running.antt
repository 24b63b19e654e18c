-- Document 01, "Bench cases": what a line of a script does and prints. "It prints, per line, the number, then for C a space and
-- the reply or `-`; for T, per channel with a nonzero net, a space, x, colon, signed net. Any other line prints `?`."
use Prim.Native.Char.{code}
use Rattle.std.specs.Prelude.{ℕ, zero, suc, ◌≡◌, List, [], ◌∷◌, ◌++◌, Bool, Option, Some, None, drop, replicate}
use Rattle.digits.specs.Places.{origin}
use Rattle.text.specs.Text.{Wrote, bytes}
use Rattle.urqolina.specs.Calls.{fresh_call, command_call, reading_call, tick_call}
use Rattle.jobs.specs.declared.Job.{Job}
use Rattle.jobs.specs.declared.Job.TheVariants.{Send, Touch, Wait, FourMotors}
use Rattle.jobs.specs.Jobs.{job_of}
use Rattle.jobs.specs.Texts.{plain_text, command_text, nets_after, waited_text}

-- what a line leaves and prints
pub record Printed : Type 0 where
  pub table : List ℕ
  pub text : List ℕ

-- It is left and printed: the table after is p's, and p's text stands at the front of the buffer, r bytes long.
pub record Leaves (p : Printed) (after out₀ out : List ℕ) (r : ℕ) : Type 0 where
  pub table : after ≡ p.table
  pub text : Wrote out₀ out p.text r

-- C: the command call, with a reply buffer of 32 bytes
unfoldable pub sent : List ℕ → List ℕ → Printed
sent t line =
    let r = command_call t line (replicate 32 0) in
    record { table = r.table; text = command_text r.result r.reply }

-- S: the reading call, and its number
unfoldable pub touched : List ℕ → ℕ → ℕ → Printed
touched t c n =
    let r = reading_call t c n in
    record { table = r.table; text = plain_text r.result }

-- T: after some of its ticks, the last one's number, the table, and the net of each channel, kept as a place: a channel that
-- has had no pulses stands at the origin
pub record Waited : Type 0 where
  pub result : ℕ
  pub table : List ℕ
  pub nets : List ℕ

-- one more tick
abbrev pub tick_of : Waited → Waited
tick_of w =
    let r = tick_call w.table (replicate 64 0) in
    record { result = r.result; table = r.table; nets = nets_after w.nets r.pulses }

-- n more ticks
unfoldable pub waited : ℕ → Waited → Waited
waited zero w = w
waited (suc n) w = waited n (tick_of w)

-- T: n ticks
unfoldable pub ticked : List ℕ → ℕ → Printed
ticked t n =
    let w = waited n (record { result = 0; table = t; nets = replicate 16 origin }) in
    record { table = w.table; text = waited_text w.result w.nets }

-- K 1: a fresh call with the four-motor card, and its number; 02 §7: "which prints 0"
unfoldable pub renewed : List ℕ → Printed
renewed t =
    let r = fresh_call t 1 in
    record { table = r.table; text = plain_text r.result }

-- by what the line asks for; "Any other line prints `?`"
abbrev pub job_done : List ℕ → List ℕ → Option Job → Printed
job_done t line (Some Send) = sent t (drop 2 line)
job_done t line (Some (Touch c n)) = touched t c n
job_done t line (Some (Wait n)) = ticked t n
job_done t line (Some FourMotors) = renewed t
job_done t line None = record { table = t; text = bytes "?" }

-- a line by itself, which is the first one or not: its table, and its text with the line feed
unfoldable pub line_done : Bool → List ℕ → List ℕ → Printed
line_done first t line =
    let r = job_done t line (job_of first line) in
    record { table = r.table; text = r.text ++ (code "\n" ∷ []) }
