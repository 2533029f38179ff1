-- The model's answers as the program gives them. Definitions only.
use Rattle.std.specs.Prelude.{ℤ, length}
use Rattle.model.specs.State as Model
use Rattle.model.specs.Answers.{Out, reply_of, code_of}
use Rattle.model.specs.declared.Info.{Info}
use Rattle.model.specs.declared.Reply.{Reply}
use Rattle.kernel.specs.declared.state.State.{State}
use Rattle.kernel.specs.declared.state.Answer.{Answer}
use Rattle.kernel.specs.declared.state.Entered.{Entered}
use Rattle.kernel.specs.declared.query.Summary.{Summary}
use Rattle.kernel.specs.Form.{state_of}

-- ---- answers: code, word, released task and what a refer tells by their definitions in the model, and the complete state
abbrev pub answered : Reply → Info → State → Answer
answered r i s = record { outcome = r.outcome; word = r.word; released = r.released; info = i; state = s }

abbrev pub answer_of : Out → Answer
answer_of o = answered (reply_of o.answer) o.answer.info (state_of o.state)

abbrev pub entered : ℤ → State → Entered
entered z s = record { code = z; state = s }

abbrev pub entered_of : Out → Entered
entered_of o = entered (code_of o.answer.code) (state_of o.state)

-- ---- how large a table is
abbrev pub summary_of : Model.State → Summary
summary_of m = record { domains = m.fixed.count; unit = m.fixed.unit; closed = m.fixed.closed; tasks = length m.fixed.tasks; semaphores = length m.sems; queues = length m.queues; regions = length m.fixed.regions }
