-- `fault::fault` meets its contract.
use mathlib.Core.Logic.{⊎_elim}
use Rattle.std.proofs.lemmas.Grind.{common_steps}
use native.Mathlib.Omega.{arith}
use Rattle.field.specs.Streaming.{is_text_class, text_fault}
use Rattle.field.proofs.KindLaws.{fault_at}
use Rattle.field.proofs.fault.fault.Goals as goal

pub returns-in-Lfpd : goal.returns-in-Lfpd
unfolding is_text_class text_fault
returns-in-Lfpd c =
    rw fault_at (⊎_elim (λ e. rw e c.fixed_fault.ensures) (λ e. rw e c.fixed_fault.ensures) c.in-Lfpd.is)

pub returns-in_default : goal.returns-in_default
unfolding is_text_class
returns-in_default c = grind (arith, common_steps, fault_at)
