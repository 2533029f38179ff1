-- What a call on an object of any kind gives, as the program gives it. Definitions only.
use Rattle.std.specs.Prelude.{ℕ, suc, List, [], ℤ, Result, Ok, Err as Refused}
use Rattle.itron.specs.Codes.{ok}
use Rattle.model.specs.State.{TaskEntry}
use Rattle.model.specs.Answers as Model
use Rattle.model.specs.Answers.{no_info, say, reply_of, plain}
use Rattle.model.specs.Acts.{Act}
use Rattle.model.specs.Rooms.{Room, act_on}
use Rattle.model.specs.declared.check.Admitted.{Admitted}
use Rattle.tasks.specs.declared.state.Tasks.{Tasks}
use Rattle.tasks.specs.declared.wait.Ended.{Ended}
use Rattle.tasks.specs.declared.effect.Effect.{Effect}
use Rattle.tasks.specs.View.{entries_of, waits_of}
use Rattle.tasks.specs.Form.{tasks_as}

-- E_OK with a word, nobody released
abbrev pub done_with : {P : Type 0} → Tasks → P → ℕ → Effect P
done_with ts rs word = record { reply = reply_of (say ok word []); info = no_info; tasks = ts; records = rs }

-- a refusal, with everything as it was
abbrev pub refused_with : {P : Type 0} → Tasks → P → ℤ → Effect P
refused_with ts rs code = record { reply = plain code 0; info = no_info; tasks = ts; records = rs }

-- an end on the tasks, with the records beside it
abbrev pub ended_with : {P : Type 0} → Ended → P → Effect P
ended_with e rs = record { reply = e.reply; info = no_info; tasks = e.tasks; records = rs }

-- the model's effect, with the tasks, which have these entries, and the records in the one form of their part
abbrev pub effect_as : {R P : Type 0} → (List R → P) → List TaskEntry → Model.Effect R → Effect P
effect_as form es e = record { reply = reply_of e.answer; info = e.answer.info; tasks = tasks_as es e.waits; records = form e.records }

-- what the checks refuse, or what the act does, the records of a room being seen of their part
abbrev pub acted : {C R P : Type 0} → Room C R → (List R → P) → (P → List R) → Tasks → P → Act C → Result Admitted ℤ → Effect P
acted r form seen ts rs a (Refused code) = refused_with ts rs code
acted r form seen ts rs a (Ok x) = effect_as form (entries_of ts) (act_on r (entries_of ts) (waits_of ts) (seen rs) (suc x.task) (suc x.object) a)
