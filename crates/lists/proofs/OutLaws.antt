-- Lines that are written one after the other, and how long they are. Assumes nothing.
use mathlib.Core.Path.{◌≡◌, refl}
use mathlib.Core.List.{List, [], ◌∷◌, ◌++◌, append_assoc}
use mathlib.Core.Bool.{Bool, true, false}
use Prim.Native.Char.{code}
use Prim.Native.Nat.{ℕ, ◌+◌, ◌-◌, ◌≤◌, ◌<◌}
use native.Mathlib.Omega.{arith}
use lib.ListN.{length, take, drop, set, length-append, length-take, length-drop}
use Rattle.digits.specs.Bytes.{put}
use Rattle.digits.proofs.PutLaws.{put_rest}
use Rattle.text.specs.Text.{bytes, Wrote}
use Rattle.text.proofs.TextLaws.{decimal_within, signed_within}
use Rattle.jobs.specs.Texts.{plain_text, signed_text}
use Rattle.jobs.proofs.OutLaws.{text_more, text_byte}
use Rattle.steps.specs.declared.Move.{Move}
use Rattle.lists.specs.Lines.{lined, head_text, start_word, setting_text, select_text, going_text, move_text, wait_text, total_text, fault_text}

-- what was written is no longer than the buffer
pub wrote_fits : {before after text : List ℕ} {r : ℕ} → Wrote before after text r → r ≤ length after
unfolding put
wrote_fits {before} {after} {text} w = rw (w.count, w.buffer, length-append, length-append) (omega arith)

-- a text that is written into what is left after another one
pub wrote_more : {before mid part s t : List ℕ} {n k : ℕ} → Wrote before mid s n → length mid ≡ length before → Wrote (take (length mid - n) (drop n mid)) part t k
    → length part ≡ length (take (length mid - n) (drop n mid)) → Wrote before (take n mid ++ (part ++ drop (length mid - n) (drop n mid))) (s ++ t) (n + k)
wrote_more {before} {mid} {part} {s} {t} {n} {k} a l b m =
    let few : n + length t ≤ length mid = let sizes = rw (length-take, length-drop) at m in omega (arith, sizes, wrote_fits a, wrote_fits b, b.count) in
    record {
      count = rw length-append (omega (arith, a.count, b.count));
      buffer = rw (b.buffer, put_rest mid t n few, a.buffer) (text_more before s t n a.count (omega (arith, wrote_fits a)));
    }

-- a byte after a text
pub wrote_byte : {before mid s : List ℕ} {n : ℕ} (b : ℕ) → Wrote before mid s n → length mid ≡ length before → n < length mid → Wrote before (set mid n b) (s ++ (b ∷ [])) (n + 1)
wrote_byte {before} {mid} {s} {n} b a l h =
    record {
      count = rw length-append (omega (arith, a.count));
      buffer = rw a.buffer (text_byte before s b n a.count (omega arith));
    }

-- ---- lengths

pub plain_within : (n : ℕ) → length (plain_text n) ≤ 10
plain_within n = decimal_within 1 n (omega arith)

pub place_within : (p : ℕ) → length (signed_text p) ≤ 11
place_within p = signed_within 1 p (omega arith)

pub then_within : (n b : ℕ) → length (plain_text n ++ (b ∷ [])) ≤ 11
then_within n b = rw length-append (omega (arith, decimal_within 1 n (omega arith)))

pub total_within : (n : ℕ) → length (total_text n) ≤ 11
unfolding total_text bytes
total_within n = rw length-append (omega (arith, decimal_within 1 n (omega arith)))

pub setting_within : (m : Move) → length (setting_text m) ≤ 18
unfolding setting_text bytes
setting_within m = rw length-append (omega (arith, decimal_within 1 m.speed (omega arith)))

pub select_within : (m : Move) → length (select_text m) ≡ 8
unfolding select_text bytes
select_within m = refl

word_size : (relative : Bool) → length (start_word relative) ≡ 5
unfolding bytes
word_size true = refl
word_size false = refl

pub going_within : (m : Move) → length (going_text m) ≤ 18
unfolding going_text
going_within m =
    let end : length (bytes "\n") ≡ 1 = unfold bytes in refl in
    rw (length-append, length-append) (omega (arith, word_size m.relative, end, signed_within 1 m.place (omega arith)))

pub speed_within : (m : Move) → length (setting_text m ++ select_text m) ≤ 26
speed_within m = rw length-append (omega (arith, setting_within m, select_within m))

pub move_within : (m : Move) → length (move_text m) ≤ 44
unfolding move_text
move_within m = rw length-append (omega (arith, speed_within m, going_within m))

pub wait_within : (n : ℕ) → length (wait_text n) ≤ 13
unfolding wait_text bytes
wait_within n = rw length-append (omega (arith, decimal_within 1 n (omega arith)))

pub fault_within : (number offset : ℕ) → length (fault_text number offset) ≤ 22
unfolding fault_text bytes
fault_within number offset = rw (length-append, length-append) (omega (arith, decimal_within 1 number (omega arith), decimal_within 1 offset (omega arith)))

-- the number with its blank, and the offset
pub fault_parts : (number offset : ℕ) → fault_text number offset ≡ plain_text number ++ (code " " ∷ []) ++ total_text offset
unfolding fault_text total_text
fault_parts number offset = simp append_assoc

-- the word with its channel, and the place
pub going_parts : (m : Move) → going_text m ≡ head_text (start_word m.relative) m.channel ++ lined (signed_text m.place)
unfolding going_text
going_parts m = simp append_assoc

-- how much of a buffer a line takes
pub ruleset widths = (wrote_fits, plain_within, place_within, then_within, total_within, setting_within, select_within, speed_within, going_within)
