use Rattle.std.proofs.lemmas.Result.{err_from_is_err_and}
use Rattle.frames.proofs.Saids.{question_refused, question_way, question_none}
use Rattle.frames.proofs.answering.answer_question.Goals as goal

pub returns-in_err-d : goal.returns-in_err-d
returns-in_err-d c =
    let p = err_from_is_err_and c.from_residual.result c.from_residual.ensures.1 in
    rw (p.1, p.2) (question_refused _ _ _ _ _ c.in_err-d.ensures)

pub returns-in-Some : goal.returns-in-Some
returns-in-Some c = question_way _ _ _ _ c.in_ok-d.ensures _ _ _ c.in-Some.is c.way.ensures

pub returns-in-None : goal.returns-in-None
returns-in-None c = question_none _ _ _ _ c.in_ok-d.ensures _ _ c.in-None.is c.no_way.ensures
