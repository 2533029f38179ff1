-- Result codes (document 01, "Codes a desk clerk sees"). Definitions only.
use Rattle.std.specs.Prelude.{◌≡◌, ◌≢◌, ℤ, pos, negsuc, Result, Ok, Err as Refused}
use Rattle.itron.specs.declared.error.Error.{Error as Refusal}
use Rattle.itron.specs.declared.error.Error.TheVariants.{Sys as e_sys, Rsatr as e_rsatr, Par as e_par, Id as e_id, Ctx as e_ctx, Macv as e_macv, Oacv as e_oacv, Iluse as e_iluse, Nomem as e_nomem, Noid as e_noid, Obj as e_obj, Noexs as e_noexs, Qovr as e_qovr, Tmout as e_tmout}
use Rattle.itron.specs.declared.error.NoError.{NoError}

-- what a call answers: done, "waiting" (which is not a refusal and has no number), or a refusal
pub data Code : Type 0 where
  ok waiting : Code
  error : Refusal → Code

-- E_OK
abbrev pub ok_number : ℤ
ok_number = pos 0

-- the number of each refusal; negsuc k is -(k + 1)
abbrev pub number_of : Refusal → ℤ
number_of e_sys = negsuc 4
number_of e_rsatr = negsuc 10
number_of e_par = negsuc 16
number_of e_id = negsuc 17
number_of e_ctx = negsuc 24
number_of e_macv = negsuc 25
number_of e_oacv = negsuc 26
number_of e_iluse = negsuc 27
number_of e_nomem = negsuc 32
number_of e_noid = negsuc 33
number_of e_obj = negsuc 40
number_of e_noexs = negsuc 41
number_of e_qovr = negsuc 42
number_of e_tmout = negsuc 49

-- the refusal that a number is, or that it is none's
abbrev pub Decodes : ℤ → Result Refusal NoError → Type 0
Decodes z (Ok e) = number_of e ≡ z
Decodes z (Refused n) = (n ≡ record { 0 = z }) × ((e : Refusal) → number_of e ≢ z)

-- what was checked or done, by its number
abbrev pub code_of : Result Unit Refusal → ℤ
code_of (Ok u) = ok_number
code_of (Refused e) = number_of e
