use Rattle.sftp_packets.specs.Layouts.{IsAsk}
use Rattle.sftp_handles.specs.State.{Good}
use Rattle.sftp_handles.specs.Allowed.{Allowed}
use Rattle.sftp_handles.specs.Clash.{range_clash}
use Rattle.sftp_joint.proofs.Orders.{no-order}
use Rattle.sftp_shared.proofs.order_laws.refuted_sessions_have_no_order.Goals as goal

pub returns : goal.returns
returns c = no-order Allowed range_clash Good (λ request. IsAsk request.ask) (record {
  exchange = λ s mid end p q a b good is_p is_q free first second.
      let places = c.ranged_requests_change_places.ensures s mid end p q a b good is_p is_q free first second in
      (places.between, places.first, places.second);
  steady = λ s end p o q a good is_p free other done.
      c.no_range_clash_arises.ensures s end p o q a good is_p free other done;
  either_way = λ s p q. c.range_clash_is_mutual.ensures s p q;
  stays_good = λ s end p a good is_p done. c.good_stays_good.ensures s p a end good is_p done;
  one_end = λ s p a x y to_x to_y. c.one_end.ensures s p a x y to_x to_y;
})
