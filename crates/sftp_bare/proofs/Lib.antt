pub mod BareReplies
