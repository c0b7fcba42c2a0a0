use Rattle.sftp_tree.proofs.Limits.{fits-parts, fits-from}
use Rattle.sftp_tree.proofs.limit_laws.limits_are_seven.Goals as goal

pub returns : goal.returns
returns c = record {
  entries = λ t h. (fits-parts t h).entries;
  depths = λ t h. (fits-parts t h).depths;
  home = λ t h. (fits-parts t h).home;
  links = λ t h. (fits-parts t h).links;
  files = λ t h. (fits-parts t h).files;
  total = λ t h. (fits-parts t h).total;
  numbers = λ t h. (fits-parts t h).numbers;
  all = λ t a b d e f g h.
      fits-from t (record { entries = a; depths = b; home = d; links = e; files = f; total = g; numbers = h });
}
