-- The limits, one after the other.
use Rattle.sftp_treefile.proofs.Imports.{◌≡◌, ℕ, sym, ap, subst, err_from_is_err_and, TreeLimits, Reads, AreRaised, limits_text}
use Rattle.sftp_treefile.proofs.Imports.{all_bytes}
use Rattle.sftp_treefile.specs.declared.limits.Opening.TheVariants.{Raised}
use Rattle.sftp_treefile.proofs.Texts.Heads.{entries_none, file_bytes_none, read_bytes_none, open_handles_none}
use Rattle.sftp_treefile.proofs.Texts.Heads.{limits_read}
use Rattle.sftp_treefile.proofs.heads.four_limits_at.Goals as goal

pub returns-in_err-entries-clause-none : goal.returns-in_err-entries-clause-none
returns-in_err-entries-clause-none c =
    let p = err_from_is_err_and c.from_residual.result c.from_residual.ensures.1 in
    let none = rw (c.usual_limits-lowest.ensures, c.highest_limits-highest.ensures) at c.in_err-entries.ensures.none in
    rw p.1 (entries_none c.args.bytes.now none)

pub returns-in_err-file_bytes-clause-none : goal.returns-in_err-file_bytes-clause-none
returns-in_err-file_bytes-clause-none c =
    let p = err_from_is_err_and c.from_residual-in_err-file_bytes.result c.from_residual-in_err-file_bytes.ensures.1 in
    let first = rw (c.usual_limits-lowest.ensures, c.highest_limits-highest.ensures) at c.in_ok-entries.ensures.found in
    let none = rw (c.usual_limits-lowest.ensures, c.highest_limits-highest.ensures) at c.in_err-file_bytes.ensures.none in
    rw p.1 (file_bytes_none c.args.bytes.now c.in_ok-entries.rest.now c.in_ok-entries.entries first none)

pub returns-in_err-read_bytes-clause-none : goal.returns-in_err-read_bytes-clause-none
returns-in_err-read_bytes-clause-none c =
    let p = err_from_is_err_and c.from_residual-in_err-read_bytes.result c.from_residual-in_err-read_bytes.ensures.1 in
    let first = rw (c.usual_limits-lowest.ensures, c.highest_limits-highest.ensures) at c.in_ok-entries.ensures.found in
    let second = rw (c.usual_limits-lowest.ensures, c.highest_limits-highest.ensures) at c.in_ok-file_bytes.ensures.found in
    let none = rw (c.usual_limits-lowest.ensures, c.highest_limits-highest.ensures) at c.in_err-read_bytes.ensures.none in
    rw p.1 (read_bytes_none c.args.bytes.now c.in_ok-entries.rest.now c.in_ok-entries.entries first
    c.in_ok-file_bytes.rest.now c.in_ok-file_bytes.file_bytes second none)

pub returns-in_err-open_handles-clause-none : goal.returns-in_err-open_handles-clause-none
returns-in_err-open_handles-clause-none c =
    let p = err_from_is_err_and c.from_residual-in_err-open_handles.result c.from_residual-in_err-open_handles.ensures.1 in
    let first = rw (c.usual_limits-lowest.ensures, c.highest_limits-highest.ensures) at c.in_ok-entries.ensures.found in
    let second = rw (c.usual_limits-lowest.ensures, c.highest_limits-highest.ensures) at c.in_ok-file_bytes.ensures.found in
    let third = rw (c.usual_limits-lowest.ensures, c.highest_limits-highest.ensures) at c.in_ok-read_bytes.ensures.found in
    let none = rw (c.usual_limits-lowest.ensures, c.highest_limits-highest.ensures) at c.in_err-open_handles.ensures.none in
    rw p.1 (open_handles_none c.args.bytes.now c.in_ok-entries.rest.now c.in_ok-entries.entries first
    c.in_ok-file_bytes.rest.now c.in_ok-file_bytes.file_bytes second c.in_ok-read_bytes.rest.now
    c.in_ok-read_bytes.read_bytes third none)

pub returns-clause-found : goal.returns-clause-found
returns-clause-found c =
    let first = rw (c.usual_limits-lowest.ensures, c.highest_limits-highest.ensures) at c.in_ok-entries.ensures.found in
    let second = rw (c.usual_limits-lowest.ensures, c.highest_limits-highest.ensures) at c.in_ok-file_bytes.ensures.found in
    let third = rw (c.usual_limits-lowest.ensures, c.highest_limits-highest.ensures) at c.in_ok-read_bytes.ensures.found in
    let fourth = rw (c.usual_limits-lowest.ensures, c.highest_limits-highest.ensures) at c.in_ok-open_handles.ensures.found in
    let total : c.highest_limits-highest.result.total_bytes ≡ all_bytes =
    ap (λ (l : TreeLimits). l.total_bytes) c.highest_limits-highest.ensures in
    subst (λ (n : ℕ). Reads AreRaised (limits_text Raised) c.args.bytes.now (record { entries = c.in_ok-entries.entries; file_bytes = c.in_ok-file_bytes.file_bytes; read_bytes = c.in_ok-read_bytes.read_bytes; open_handles = c.in_ok-open_handles.open_handles; total_bytes = n }) c.in_ok-open_handles.rest.now)
    (sym total)
    (limits_read c.args.bytes.now c.in_ok-entries.rest.now c.in_ok-entries.entries first c.in_ok-file_bytes.rest.now
    c.in_ok-file_bytes.file_bytes second c.in_ok-read_bytes.rest.now c.in_ok-read_bytes.read_bytes third
    c.in_ok-open_handles.rest.now c.in_ok-open_handles.open_handles fourth)
