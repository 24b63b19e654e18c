-- `replies::write_head_question` meets its contract. Assumes nothing.
use mathlib.Core.Path.{refl}
use Rattle.text.specs.Text.{bytes, hex_byte, hex_word}
use Rattle.replies.specs.Replies.{all_reply_text, pause_text, head_text}
use Rattle.replies.proofs.ReplyLaws.{short, head_within}
use Rattle.replies.proofs.write_head_question.Goals as goal

pub returns-in-AskAllReply : goal.returns-in-AskAllReply
unfolding head_text all_reply_text bytes
returns-in-AskAllReply c =
    short (head_within c.args.h c.args.q) (rw c.in-AskAllReply.is c.write_either.ensures)

pub returns-in-AskFlags : goal.returns-in-AskFlags
unfolding head_text hex_byte
returns-in-AskFlags c =
    short (head_within c.args.h c.args.q) (rw c.in-AskFlags.is (record { count = refl; buffer = c.write_hex.ensures }))

pub returns-in-AskError : goal.returns-in-AskError
unfolding head_text
returns-in-AskError c =
    short (head_within c.args.h c.args.q) (rw c.in-AskError.is c.write_error.ensures)

pub returns-in-AskPause : goal.returns-in-AskPause
unfolding head_text pause_text bytes
returns-in-AskPause c =
    short (head_within c.args.h c.args.q) (rw (c.in-AskPause.is, ← c.is_paused.ensures) c.write_either-in-AskPause.ensures)

pub returns-in-AskBusy : goal.returns-in-AskBusy
unfolding head_text hex_word hex_byte
returns-in-AskBusy c =
    short (head_within c.args.h c.args.q) (rw c.in-AskBusy.is (record { count = refl; buffer = c.write_hex_word.ensures }))

pub returns-in-AskFree : goal.returns-in-AskFree
unfolding head_text
returns-in-AskFree c =
    short (head_within c.args.h c.args.q) (rw c.in-AskFree.is c.write_free.ensures)
