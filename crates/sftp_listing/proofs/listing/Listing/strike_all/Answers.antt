use Rattle.sftp_listing.proofs.Imports.{◌∙◌}
use Rattle.sftp_listing.proofs.FirstNames.{struck-next, struck-last}
use Rattle.sftp_listing.proofs.listing.Listing.strike_all.Goals as goal

pub loop-name-preserved : goal.loop-name-preserved
loop-name-preserved c = record {
  ordered = c.strike.ensures.ordered;
  rest =
      struck-next c.loop-name.self c.strike.new.self c.args.names.now c.loop-name.name-index c.name-item.result
      c.loop-name.invariant.ordered c.loop-name-test.true c.name-item.is c.strike.ensures.struck
      ∙ c.loop-name.invariant.rest;
}

pub returns : goal.returns
returns c =
    struck-last c.loop-name.self c.args.names.now c.loop-name.name-index c.loop-name-test.false
    ∙ c.loop-name.invariant.rest
