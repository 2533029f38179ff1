-- Every task belongs to the kernel domain or to one of the domains 1 to n; so "bits for domains above n .. admit nobody" (document 01). Assumes nothing.
use mathlib.Core.Path.{◌≡◌, refl, sym, ◌∙◌}
use Prim.Native.Nat.{ℕ, zero, suc, ◌^◌, ◌%◌}
use native.Mathlib.Omega.{arith}
use lib.IntN.{ℤ, pos, negsuc}
use Rattle.access.proofs.Laws.{kernel_always, above_unused}
use Rattle.access.specs.Domains.{running_of}
use Rattle.access.specs.Patterns.{admitted}
use Rattle.model.specs.State.{State, no_task, domain_at, level_at, running_at}
use Rattle.model.specs.Denials.{Ready}
use Rattle.model.specs.Conditions.{TaskOwner, TaskEntryFits, Sound}
use Rattle.model.proofs.Lists.{all_at}

-- the bits above n of a pattern decide nothing for a caller, as whatever it runs
pub above_nobody : (s : State) (t p : ℕ) → Sound s → Ready s t → admitted (p % 2 ^ s.fixed.count) (running_at s t) ≡ admitted p (running_at s t)
above_nobody s t p k r = at_level (domain_at s t) (level_at s t) (all_at (TaskEntryFits s.fixed.count) no_task s.fixed.tasks t k.entries.tasks r.1.0.0 r.1.0.1).0
  where
    go : (d : ℤ) → TaskOwner s.fixed.count d → admitted (p % 2 ^ s.fixed.count) d ≡ admitted p d
    go (pos zero) w = absurd (w.0 refl)
    go (pos (suc j)) w = above_unused p s.fixed.count j k.entries.domains (omega (arith, w.1))
    go (negsuc zero) w = kernel_always (p % 2 ^ s.fixed.count) ∙ sym (kernel_always p)
    go (negsuc (suc j)) w = absurd w

    at_level : (d : ℤ) (n : ℕ) → TaskOwner s.fixed.count d → admitted (p % 2 ^ s.fixed.count) (running_of d n) ≡ admitted p (running_of d n)
    at_level d zero w = go d w
    at_level d (suc n) w = go (negsuc 0) tt
