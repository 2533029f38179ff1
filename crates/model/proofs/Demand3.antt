-- Demand 3, proved: what each room proves of its objects, and who waits
use mathlib.Core.List.{List}
use Rattle.model.specs.State.{State}
use Rattle.model.specs.Calls.{Call}
use Rattle.model.specs.History.{after, history}
use Rattle.model.specs.Demand3.{Demand3, JustClosed}
use Rattle.model.proofs.Steps.{waiters_are_lem}
use Rattle.model.proofs.LevelClaims.{tally}
use Rattle.model.proofs.SemaphoreClaims.{counted}
use Rattle.model.proofs.QueueClaims.{carried}
use Rattle.model.proofs.Releases.{releases}

pub demand3 : (s₀ : State) → JustClosed s₀ → (cs : List Call) → Demand3 s₀ (history s₀ cs) (after s₀ cs)
demand3 s₀ j cs = record {
  queues = carried s₀ j cs;
  semaphores = counted s₀ cs;
  levels = (tally s₀ j cs).leveled;
  waiters_are = waiters_are_lem s₀ j.no_waits cs;
  releases = releases s₀ j.no_waits cs;
}
