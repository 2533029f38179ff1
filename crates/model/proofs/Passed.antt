-- What checks give, read back. Assumes nothing.
use Prim.Native.Nat.{ℕ}
use native.Mathlib.Omega.{arith}
use mathlib.Core.Path.{◌≡◌, refl, sym, ap, ◌∙◌}
use mathlib.Core.Bool.{Bool, true, false}
use mathlib.Core.Option.{Option, none, some}
use Rattle.std.specs.Prelude.{Result, Ok, Err as Refused, is_err}
use Rattle.itron.specs.Codes.{code_of}
use Rattle.itron.specs.declared.error.Error.{Error as Refusal}
use Rattle.model.specs.Answers.{result_of}
use Rattle.model.specs.Checks.{passed}

abbrev error_or : Result Unit Refusal → Refusal → Refusal
error_or (Refused e) d = e
error_or (Ok x) d = d

-- nothing refuses
pub passed_ok : (o : Option Refusal) → passed o ≡ Ok tt → o ≡ none
passed_ok none h = refl
passed_ok (some e) h = absurd (let z : ◌≡◌ {A = ℕ} 0 1 = cc in omega arith)

pub passed_none : (o : Option Refusal) {k : Result Unit Refusal} → k ≡ passed o → is_err k ≡ false → o ≡ none
passed_none none h f = refl
passed_none (some e) h f = absurd (let z : true ≡ false = sym (ap is_err h) ∙ f in let w : ◌≡◌ {A = ℕ} 0 1 = cc in omega arith)

-- what refuses
pub passed_err : (o : Option Refusal) {e : Refusal} → passed o ≡ Refused e → o ≡ some e
passed_err none h = absurd (let z : ◌≡◌ {A = ℕ} 0 1 = cc in omega arith)
passed_err (some d) h = ap (λ (r : Result Unit Refusal). some (error_or r d)) h

pub passed_some : (o : Option Refusal) {k : Result Unit Refusal} → k ≡ passed o → is_err k ≡ true → (e : Refusal) × (o ≡ some e)
passed_some none h f = absurd (let z : false ≡ true = sym (ap is_err h) ∙ f in let w : ◌≡◌ {A = ℕ} 0 1 = cc in omega arith)
passed_some (some e) h f = (e, refl)

-- the code of what they give
pub passed_code : (o : Option Refusal) → code_of (passed o) ≡ result_of o
passed_code none = refl
passed_code (some e) = refl
