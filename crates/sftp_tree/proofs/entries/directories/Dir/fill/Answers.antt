use Rattle.sftp_tree.proofs.Imports.{◌∷◌, ◌++◌, [], subst, Name, IsGrafted}
use Rattle.sftp_tree.proofs.Nesting.Changes.{root-branch, filled}
use Rattle.sftp_tree.proofs.entries.directories.Dir.fill.Goals as goal

pub put-requires-clause-branch : goal.put-requires-clause-branch
put-requires-clause-branch c = root-branch c.new.result (record { uid = 0; gid = 0; permissions = 0 }) c.new.ensures

pub returns-clause-ok : goal.returns-clause-ok
returns-clause-ok c = filled (c.args.parent.now ++ c.args.name.now ∷ []) c.args.self.now c.put.new.self c.new.result
    (record { uid = 0; gid = 0; permissions = 0 }) c.has_at.result c.new.ensures
    (subst (λ (name : Name). IsGrafted (c.args.parent.now ++ name ∷ []) c.args.self.now c.put.new.self c.new.result)
    c.in_ok-copy.ensures c.in_ok-put.ensures.ok) c.has_at.ensures c.if-has_at.false
