-- Each turn of the loop switches the next departure.
use Rattle.std.proofs.Common.{refl, sym, ◌∙◌, arith}
use Rattle.sftp_options.proofs.OptionLaws.{names-turn, names-end}
use Rattle.sftp_options.proofs.profiles.switched.Goals as goal

pub names-init : goal.names-init
names-init c = (omega arith, refl)

pub names-preserved : goal.names-preserved
names-preserved c = (
  omega (arith, c.names-test.true),
  rw c.with_departure-profile.ensures
      (sym (names-turn (λ name. name.now) c.args.is_on c.names.profile c.args.names.now c.names.name-index _
      c.names-test.true) ∙ c.names.invariant.1),
)

pub returns : goal.returns
returns c =
    sym (names-end (λ name. name.now) c.args.is_on c.names.profile c.args.names.now c.names.name-index
    (omega (arith, c.names-test.false, c.names.invariant.0))) ∙ c.names.invariant.1
