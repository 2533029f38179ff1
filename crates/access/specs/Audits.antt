-- The audit report (document 01, "Patterns and vectors"). Definitions only.
use Rattle.std.specs.Prelude.{ℕ, zero, suc, ◌+◌, cond, ℤ, pos, negsuc, leb}
use Rattle.itron.specs.Limits.{max_domains}
use Rattle.itron.specs.Codes.{ok_number, number_of}
use Rattle.itron.specs.declared.error.Error.TheVariants.{Par as e_par}
use Rattle.access.specs.Patterns.{admitted}
use Rattle.access.specs.declared.vector.Vector.{Vector}
use Rattle.access.specs.declared.audit.Admissions.{Admissions}
use Rattle.access.specs.declared.audit.AuditReport.{AuditReport}

-- "how many user domains it admits", of the domains 1 to n
unfoldable pub count_to : ℕ → ℕ → ℕ
count_to p zero = 0
count_to p (suc k) = count_to p k + cond (admitted p (pos (suc k))) 1 0

-- the first number unless it is 0, which stands for nobody
abbrev pub or_else : ℕ → ℕ → ℕ
or_else zero d = d
or_else (suc k) d = suc k

-- "and the lowest admitted one", of the domains 1 to n; 0 with nobody admitted
unfoldable pub lowest_to : ℕ → ℕ → ℕ
lowest_to p zero = 0
lowest_to p (suc k) = or_else (lowest_to p k) (cond (admitted p (pos (suc k))) (suc k) 0)

abbrev pub admissions_of : ℕ → ℕ → Admissions
admissions_of p n = record { count = count_to p n; lowest = lowest_to p n }

abbrev pub no_admissions : Admissions
no_admissions = record { count = 0; lowest = 0 }

abbrev pub report_of : Vector → ℕ → AuditReport
report_of v n =
    record {
      code = ok_number;
      normal1 = admissions_of v.normal1 n;
      normal2 = admissions_of v.normal2 n;
      management = admissions_of v.management n;
      reference = admissions_of v.reference n;
    }

abbrev pub refused_report : AuditReport
refused_report =
    record {
      code = number_of e_par;
      normal1 = no_admissions;
      normal2 = no_admissions;
      management = no_admissions;
      reference = no_admissions;
    }

-- "outside 0 to 32: E_PAR, all numbers 0"
unfoldable pub audit_of : Vector → ℤ → AuditReport
audit_of v (pos n) = cond (leb n max_domains) (report_of v n) refused_report
audit_of v (negsuc k) = refused_report
