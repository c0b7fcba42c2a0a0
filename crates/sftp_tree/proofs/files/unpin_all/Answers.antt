use Rattle.sftp_tree.proofs.Imports.{ap, sym, ◌∙◌, nat_lt, Stored, without_pins}
use Rattle.sftp_tree.proofs.FileCounts.{retained}
use Rattle.sftp_tree.proofs.files.unpin_all.Goals as goal

pub returns : goal.returns
returns c = retained _ (λ f number s b w g t.
    let met = t.called.met in
    (met.0 ∙ ap (λ (s : Stored). nat_lt 0 s.names) t.shows.1, sym t.leaves ∙ met.1 ∙ ap without_pins t.shows.1))
    _ c.args.files.now.entries c.retain.new.self.entries c.retain.ensures.filtered
