use Rattle.sftp_server.proofs.Imports.{take, refl, ap, ◌∙◌, request_packet}
use Rattle.sftp_server.proofs.Sessions.Asked.{bytes-in-front, takes-delivered, takes-unlogged, delivered-falls}
use Rattle.sftp_server.proofs.taking.log_request.Goals as goal

pub returns-in-Ok-clause-running : goal.returns-in-Ok-clause-running
returns-in-Ok-clause-running g c =
    let packet = request_packet c.args.request in
    let spelled =
    ap (take c.args.count) c.held.ensures
    ∙ bytes-in-front c.args.input.now.held packet c.args.count c.requires.whole in
    takes-delivered c.args.input.now c.deliver.new.input c.args.core.now c.deliver.new.core c.args.log.now
    c.record_bytes.new.self c.args.request c.args.count c.deliver.result c.requires.whole c.requires.can
    c.requires.logging (c.in-Ok.ensures packet refl spelled) c.deliver.ensures.ok c.deliver.ensures.taken
    c.deliver.ensures.moved c.deliver.ensures.err c.deliver.ensures.kept

pub returns-in-Ok-clause-falls : goal.returns-in-Ok-clause-falls
returns-in-Ok-clause-falls g c =
    delivered-falls c.args.input.now c.deliver.new.input (request_packet c.args.request) c.args.count c.deliver.result
    c.requires.whole c.deliver.ensures.moved

pub returns-in-Err-clause-running : goal.returns-in-Err-clause-running
returns-in-Err-clause-running g c =
    let packet = request_packet c.args.request in
    let spelled =
    ap (take c.args.count) c.held.ensures
    ∙ bytes-in-front c.args.input.now.held packet c.args.count c.requires.whole in
    takes-unlogged c.args.input.now c.args.core.now c.args.log.now c.record_bytes.new.self c.args.request c.args.count
    c.in-Err.field-0 c.requires.whole c.requires.can c.requires.logging (c.in-Err.ensures packet refl spelled)
