use Rattle.std.proofs.Common.{◌≡◌, ◌∙◌, Err, IsErrAnd, Ok, Result, ap, refl}
use Rattle.dv_files.specs.Check.{read_fault}
use Rattle.dv_files.specs.declared.check.CheckFault.{CheckFault}
use Rattle.dv_files.specs.declared.check.CheckFault.TheVariants as faults
use Rattle.dv_files.specs.declared.file.FileFault.{FileFault}
use Rattle.dv_files.specs.declared.file.FileFault.TheVariants as file
use Rattle.dv_files.proofs.check.check.Goals as goal

-- a check reports a file that is too large if reading it does
too_large : {A : Type 0} (result : Result A CheckFault) (fault : FileFault) → IsErrAnd result (λ e. e ≡ read_fault fault) → result ≡ Err faults.TooLarge → fault ≡ file.TooLarge
too_large (Ok x) fault told large = absurd told
too_large (Err e) file.Read told large = cc
too_large (Err e) file.TooLarge told large = refl
too_large (Err e) file.NoMemory told large = cc

pub returns-in_err-bytes-clause-large : goal.returns-in_err-bytes-clause-large
returns-in_err-bytes-clause-large g c =
    λ e. c.read_file.ensures.large (c.in_err-bytes.was ∙ ap Err (too_large c.from_residual.result c.in_err-bytes.field-0.0 c.from_residual.ensures.1 e))

-- and never of the writer
unwritten : {A : Type 0} (result : Result A CheckFault) (fault : FileFault) → IsErrAnd result (λ e. e ≡ read_fault fault) → result ≡ Err faults.Write → ⊥
unwritten (Ok x) fault told write = told
unwritten (Err e) file.Read told write = cc
unwritten (Err e) file.TooLarge told write = cc
unwritten (Err e) file.NoMemory told write = cc

pub returns-in_err-bytes-clause-tried : goal.returns-in_err-bytes-clause-tried
returns-in_err-bytes-clause-tried g c = λ e. absurd (unwritten c.from_residual.result c.in_err-bytes.field-0.0 c.from_residual.ensures.1 e)
