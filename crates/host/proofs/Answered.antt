-- What the exported function promises, in plain facts. Assumes nothing.
use Prim.Native.Nat.{ℕ, ◌+◌, ◌*◌, ◌<◌}
use mathlib.Core.Path.{◌≡◌}
use mathlib.Core.List.{List}
use mathlib.Core.Option.{some}
use lib.ListN.{take, drop}
use Rattle.model.specs.State.{sem_at}
use Rattle.model.specs.Lists.{total}
use Rattle.model.specs.Table.{enter, fresh, close}
use Rattle.model.specs.Units.{unit_ok}
use Rattle.model.specs.Calls.{Call, step}
use Rattle.model.specs.History.{after}
use Rattle.model.specs.SemaphoreClaims.{by_semaphore, grants, signals}
use Rattle.batch.specs.Encoding.{item_at, items_in, calls_in}
use Rattle.batch.specs.Written.{Says}
use Rattle.batch.specs.Runs.{calls_made, history_made}
use Rattle.batch.proofs.Places.{call_at}
use Rattle.laws.specs.Starred.{bench}
use Rattle.host.specs.Hosted.{Hosted}

module _ {calls before behind : List ℕ} {r : ℕ} (h : Hosted calls before behind r) where
  -- the eleven words from 11 k on say what the rules answer to the k-th call, after the calls before it on the bench table
  pub call_answered : (k : ℕ) → k < r → (c : Call) → item_at calls k ≡ some c → Says (take 11 (drop (k * 11) behind)) (step (after bench (calls_in (items_in calls k))) c).answer
  call_answered = call_at bench calls before behind r h.answered h.answers

  -- semaphore 1 starts at 1
  pub count_kept : (sem_at (after bench (calls_made calls before)) 1).count + total grants (by_semaphore 1 (history_made bench calls before)) ≡ 1 + total signals (by_semaphore 1 (history_made bench calls before))
  unfolding bench enter fresh close unit_ok
  count_kept = h.demand.semaphores 1
