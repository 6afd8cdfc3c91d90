use mathlib.Core.Path.{refl, ap}
use Rattle.std.proofs.lemmas.Result.{err_from_is_err_and}
use Rattle.frames.specs.declared.Phase.{Phase}
use Rattle.std.specs.Prelude.{Ok, Err}
use Rattle.frames.specs.Stages.{map_in, stage_by}
use Rattle.frames.specs.Steps.{asking}
use Rattle.frames.proofs.Taking.{takes_leaves, takes_none}
use Rattle.frames.proofs.steps.step.Goals as goal

pub returns-in_err-line-clause-leaves : goal.returns-in_err-line-clause-leaves
returns-in_err-line-clause-leaves c =
    let p = err_from_is_err_and c.from_residual.result c.from_residual.ensures.1 in
    let e = c.in_err-line.ensures in
    rw (p.1, p.2)
    (takes_none c.args.bytes.now _ _ _ c.args.phase c.args.areas.now c.requires.going c.read_line.ensures refl e.ok_part _ e.value _)

pub returns-in_err-ask-in-Asking-clause-leaves : goal.returns-in_err-ask-in-Asking-clause-leaves
returns-in_err-ask-in-Asking-clause-leaves c =
    let p = err_from_is_err_and c.from_residual-in_err-ask-in-Asking.result c.from_residual-in_err-ask-in-Asking.ensures.1 in
    rw (p.1, p.2)
    (takes_leaves c.args.bytes.now _ _ _ c.args.phase c.args.areas.now c.requires.going c.read_line.ensures refl
    (λ (u : Unit {0}). asking (map_in c.in-Asking.map c.args.areas.now)) _ (ap (λ (p : Phase). stage_by p c.args.areas.now) c.in-Asking.is) _ c.in_ok-line.ensures.ok_part
    (Err c.in_err-ask-in-Asking.field-0.0) _ _ c.in_err-ask-in-Asking.ensures)

pub returns-in-Begun-clause-leaves : goal.returns-in-Begun-clause-leaves
returns-in-Begun-clause-leaves c =
    takes_leaves c.args.bytes.now _ _ _ c.args.phase c.args.areas.now c.requires.going c.read_line.ensures refl _ _
    (ap (λ (p : Phase). stage_by p c.args.areas.now) c.in-Begun.is) _ c.in_ok-line.ensures.ok_part _ _ _ (c.take_head.ensures.leaves c.read_line.new.nodes)

pub returns-in-Loading-clause-leaves : goal.returns-in-Loading-clause-leaves
returns-in-Loading-clause-leaves c =
    takes_leaves c.args.bytes.now _ _ _ c.args.phase c.args.areas.now c.requires.going c.read_line.ensures refl _ _
    (ap (λ (p : Phase). stage_by p c.args.areas.now) c.in-Loading.is) _ c.in_ok-line.ensures.ok_part _ _ _ (c.take_arc.ensures.leaves c.read_line.new.nodes)

pub returns-in_ok-ask-in-Asking-clause-leaves : goal.returns-in_ok-ask-in-Asking-clause-leaves
returns-in_ok-ask-in-Asking-clause-leaves c =
    takes_leaves c.args.bytes.now _ _ _ c.args.phase c.args.areas.now c.requires.going c.read_line.ensures refl
    (λ (u : Unit {0}). asking (map_in c.in-Asking.map c.args.areas.now)) _ (ap (λ (p : Phase). stage_by p c.args.areas.now) c.in-Asking.is) _ c.in_ok-line.ensures.ok_part
    (Ok tt) _ _ c.in_ok-ask-in-Asking.ensures
