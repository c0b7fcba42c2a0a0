mod AuditLaws
mod StartLaws
