use Rattle.std.proofs.lemmas.Result.{err_from_is_err_and}
use Rattle.frames.proofs.Saids.{drive_refused, drive_kept, kept_long, room_long}
use Rattle.frames.specs.workings.Held.{lists_of}
use Rattle.frames.proofs.answering.answer_drive.Goals as goal

pub returns-in_err-count : goal.returns-in_err-count
returns-in_err-count c =
    let p = err_from_is_err_and c.from_residual.result c.from_residual.ensures.1 in
    rw (p.1, p.2) (drive_refused (lists_of c.args.map.now) _ _ (room_long _ c.requires.few) _ _ _ c.in_err-count.ensures)

pub slice_bounds-kept-end : goal.slice_bounds-kept-end
slice_bounds-kept-end c = kept_long (lists_of c.args.map.now) c.args.nodes.now _ (room_long _ c.requires.few) _ _ c.in_ok-count.ensures

pub returns : goal.returns
returns c = drive_kept (lists_of c.args.map.now) _ _ (room_long _ c.requires.few) _ _ c.in_ok-count.ensures _ _ c.kept.ensures
