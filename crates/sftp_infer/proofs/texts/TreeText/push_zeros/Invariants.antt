use Rattle.sftp_infer.proofs.texts.TreeText.push_zeros.Given as goal

abbrev pub decreases-left : goal.decreases-left
decreases-left l = l.left
