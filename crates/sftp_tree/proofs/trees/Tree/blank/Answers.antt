-- The root alone.
use Rattle.sftp_tree.proofs.Imports.{◌≡◌, [], sym, subst, ◌∙◌, Place, TreeLimits, usual_limits, Names, IsKept, seen}
use Rattle.sftp_tree.proofs.Imports.{Stores, only_root, blank}
use Rattle.sftp_tree.proofs.FileCounts.{none_pinned}
use Rattle.sftp_tree.proofs.TreeFiles.Files.{blank_kept}
use Rattle.sftp_tree.proofs.TreeFiles.Stores.{grown_root}
use Rattle.sftp_tree.proofs.trees.Tree.blank.Goals as goal

blank-seen : (names : Names) (stores : Stores) (bounds : TreeLimits) (home : Place)
    → names ≡ only_root (record { uid = 0; gid = 0; permissions = 0o755 }) → stores ≡ [] → bounds ≡ usual_limits
    → home ≡ [] → seen names stores 0 bounds home 0 0 ≡ blank
blank-seen names stores bounds home alone none usual root =
    let g = grown_root _ names stores alone none in
    let unpinned = none_pinned stores g.unpinned in
    λ i. record {
      names = g.names_are i;
      files = g.contents_are i;
      made = 0;
      pins = unpinned i;
      limits = usual i;
      home = root i;
      uid = 0;
      gid = 0;
    }

pub from_parts-requires-clause-kept : goal.from_parts-requires-clause-kept
from_parts-requires-clause-kept c =
    subst IsKept (sym (blank-seen _ _ _ _ c.root-names.ensures c.new-files.ensures c.usual_limits.ensures c.root-home.ensures)) blank_kept

pub returns : goal.returns
returns c =
    c.from_parts.ensures ∙ blank-seen _ _ _ _ c.root-names.ensures c.new-files.ensures c.usual_limits.ensures c.root-home.ensures
