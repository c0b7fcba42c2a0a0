-- What `raise` makes of a tree file.
use Rattle.sftp_treefile.specs.declared.files.TreeFile.{TreeFile}
use Rattle.sftp_treefile.specs.TreeFile.{raised_limits, fitting_limits, most_limits}
use Rattle.sftp_files.specs.declared.options.RaiseTo.{RaiseTo}
use Rattle.sftp_files.specs.declared.options.RaiseTo.TheVariants.{Highest, Fit, Most}

-- the same tree file with these limits
abbrev pub raised_to : RaiseTo → TreeFile → TreeFile
raised_to Highest file = record file { limits = raised_limits file.limits }
raised_to Fit file = record file { limits = fitting_limits file.rows }
raised_to Most file = record file { limits = most_limits }
