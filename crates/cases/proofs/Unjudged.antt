-- Our library without the judging of soundness: what it does where the table is sound. From a sound table on every table is sound
-- (`next` of crate laws), so that on sequences from fresh the two give the same, and a case may be computed on this one; to compute a
-- call is mostly to judge its table. Nobody need believe it. Assumes nothing.
use Prim.Native.Nat.{ℕ}
use mathlib.Core.Path.{◌≡◌, refl, ap}
use mathlib.Core.List.{List, [], ◌∷◌}
use mathlib.Core.Bool.{Bool, true, false, ◌&&◌, cond}
use lib.ListN.{length}
use lib.Dec.{eqb, leb}
use borrow.Author.Tests.{eq-eqb}
use Rattle.drive.specs.Numbers.{number_of}
use Rattle.drive.specs.Drives.{switch_read}
use Rattle.pulses.specs.Ticks.{tick_motor}
use Rattle.table.specs.Layout.{table_size, motor_at, with_motor, with_motors}
use Rattle.table.specs.Sound.{sound_table}
use Rattle.table.proofs.TableLaws.{sound_length}
use Rattle.obeying.specs.Taking.{accepted, CommandAfter, order_in, taken}
use Rattle.urqolina.specs.Calls.{refusal, TableAfter, TickAfter, fresh_call, command_call, reading_call, counts, tick_call}
use Rattle.laws.specs.Sequences.{Library, urqolina, Call, command, reading, tick, after, run, Beginning, from_fresh}
use Rattle.laws.specs.Ledger.{Account, no_drive, entered, account}
use Rattle.laws.specs.Pulses.{account_now}
use Rattle.laws.proofs.Following.{next}
use Rattle.laws.proofs.LastingLaws.{ran_sound}

abbrev pub unjudged : Library
unjudged =
    record {
      fresh = fresh_call;
      command = λ t line reply. cond (leb 32 (length reply)) (taken t (order_in t line) reply) (record { result = 5; table = t; reply = reply });
      reading = λ t c n. cond (leb c 15 && leb n 7) (record { result = 0; table = with_motor t c (switch_read (motor_at t c) n) }) (record { result = 5; table = t });
      tick = λ t p.
          cond (eqb (length p) 64)
          (record { result = 0; table = with_motors t (λ m. (tick_motor m).motor); pulses = counts t })
          (record { result = 5; table = t; pulses = p });
    }

-- A call on a sound table gives the same: it is done where its sizes are right, and 5 where they are not.
same_way : {A : Type 0} (all sizes : Bool) (t : List ℕ) (left : ℕ → A) (done : A) → all ≡ sizes → sound_table t ≡ true
    → cond (accepted (refusal all t)) done (left (number_of (refusal all t))) ≡ cond sizes done (left 5)
unfolding number_of
same_way all true t left done e s = rw (e, s)
same_way all false t left done e s = rw e

pub same_call : (t : List ℕ) (k : Call) → sound_table t ≡ true → after urqolina t k ≡ after unjudged t k
unfolding after command_call reading_call tick_call number_of
same_call t (command line reply) s =
    ap (λ (a : CommandAfter). record { result = a.result; table = a.table; buffer = a.reply })
    (same_way (eqb (length t) table_size && leb 32 (length reply)) (leb 32 (length reply)) t (λ n. record { result = n; table = t; reply = reply }) _ (rw (eq-eqb (length t) table_size (sound_length t s))) s)
same_call t (reading c n) s =
    ap (λ (a : TableAfter). record { result = a.result; table = a.table; buffer = [] })
    (same_way (eqb (length t) table_size && leb c 15 && leb n 7) (leb c 15 && leb n 7) t (λ k. record { result = k; table = t }) _ (rw (eq-eqb (length t) table_size (sound_length t s))) s)
same_call t (tick p) s =
    ap (λ (a : TickAfter). record { result = a.result; table = a.table; buffer = a.pulses })
    (same_way (eqb (length t) table_size && eqb (length p) 64) (eqb (length p) 64) t (λ n. record { result = n; table = t; pulses = p }) _ (rw (eq-eqb (length t) table_size (sound_length t s))) s)

-- So does the account of a channel over a sequence of calls.
same_entry : (c : ℕ) (t : List ℕ) (a : Account) (k : Call) → sound_table t ≡ true → entered urqolina c t a k ≡ entered unjudged c t a k
unfolding entered
same_entry c t a k s = rw (same_call t k s)

same_account : (c : ℕ) (t : List ℕ) (a : Account) (ks : List Call) → sound_table t ≡ true → account urqolina c t a ks ≡ account unjudged c t a ks
unfolding account
same_account c t a [] s = refl
same_account c t a (k ∷ ks) s =
    rw (← same_call t k s, ← same_entry c t a k s) (same_account c (after urqolina t k).table (entered urqolina c t a k) ks (next t k s).sound)

pub same_account_now : (b : Beginning) (c : ℕ) (ks : List Call) → account_now urqolina b c ks ≡ account_now unjudged b c ks
unfolding run
same_account_now b c ks = same_account c (from_fresh urqolina b) no_drive ks (ran_sound b [])
