use Rattle.sftp_handles.proofs.TotalSteps.PathReplies.{some-allowed}
use Rattle.sftp_handles.proofs.laws.some_reply.Goals as goal

pub returns : goal.returns
returns c =
    some-allowed (λ t kept follow path place bytes is. record {
      named = c.walks_give_places.ensures.names t follow path place kept bytes is;
      above = c.walks_give_places.ensures.parent t follow path place kept bytes is;
    })
