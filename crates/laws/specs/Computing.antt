-- To compute what the demands are stated with down to numbers and bytes, a statement says `unfolding computing_laws`: it opens every
-- definition that is otherwise shut. It says nothing itself.
use Rattle.urqolina.specs.Computing.{computing_urqolina}
use Rattle.laws.specs.Sequences.{after, run, never}
use Rattle.laws.specs.Deeds.{order_taken, names, deed_of, deed, is_tick}
use Rattle.laws.specs.Ledger.{cw_pulses, ccw_pulses, sets_off, way_of, course_in, booked, entered, account, ticks_in, travelled, travel, settled, settings}
use Rattle.laws.specs.Numbers.{asks}
use Rattle.laws.specs.Neighbours.{of_head}
use Rattle.laws.specs.Unchanged.{repeats, changes_nothing}
use Rattle.laws.specs.ReadBack.{question_for, text_for, topic, changed_by, changes, head_topic, writes_field}
use Rattle.laws.specs.Pulses.{disturbs}
use Rattle.laws.specs.Contacts.{told_by, told}

unfoldable pub computing_laws : Unit {0}
unfolding computing_urqolina after run never order_taken names deed_of deed is_tick cw_pulses ccw_pulses sets_off way_of course_in booked entered account ticks_in travelled travel settled settings asks of_head repeats changes_nothing question_for text_for topic changed_by changes head_topic writes_field disturbs told_by told
computing_laws = tt
