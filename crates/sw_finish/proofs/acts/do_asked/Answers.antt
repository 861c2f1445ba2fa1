use Rattle.std.proofs.Common.{refl}
use Rattle.sw_finish.proofs.Doing.{then_later}
use Rattle.sw_state.specs.Hosted.{state_of}
use Rattle.sw_work.specs.Plans.{told_by_act}
use Rattle.sw_finish.proofs.acts.do_asked.Goals as goal

pub follow-requires : goal.follow-requires
follow-requires c =
    then_later c.args.asked.then (told_by_act c.args.asked.act (state_of c.args.host.now)).state (state_of c.do_act.new.host) c.args.host.now c.do_act.new.host
    c.do_act.ensures.did.state c.do_act.ensures.promises c.requires.fits.then

pub returns : goal.returns
returns c = record {
  answer = refl;
  did =
      c.follow.ensures (told_by_act c.args.asked.act (state_of c.args.host.now)) c.args.notices.now c.do_act.new.notices c.do_act.ensures.did;
}
