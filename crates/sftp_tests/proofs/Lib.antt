pub mod AuditedLaws
pub mod StrictRuns
