use lib.ListN.{length}
use mathlib.Core.Path.{◌≡◌}
use Rattle.frames.proofs.Asking.{asks_drive, asks_question, graph_fits}
use Rattle.frames.proofs.Judging.{not_asked}
use Rattle.frames.proofs.answering.ask.Goals as goal

pub answer_question-requires-clause-graph_fits : goal.answer_question-requires-clause-graph_fits
answer_question-requires-clause-graph_fits c =
    let starts : length c.args.areas.now.starts ≡ 513 = search in
    let heads : length c.args.areas.now.heads ≡ 2048 = search in graph_fits c.args.sizes c.args.areas.now c.map-map.result c.map-map.ensures c.requires.fits starts heads

pub returns-in-Question : goal.returns-in-Question
returns-in-Question c = asks_question c.args.sizes c.args.areas.now c.map-map.result c.map-map.ensures _ _ _ _ _ _ _ c.in-Question.is c.answer_question.ensures

pub returns-in-Drive : goal.returns-in-Drive
returns-in-Drive c = asks_drive c.args.sizes c.args.areas.now c.map-map.result c.map-map.ensures _ _ _ _ _ _ c.in-Drive.is c.answer_drive.ensures

pub returns-in-Head : goal.returns-in-Head
returns-in-Head c = not_asked _ _ _ _ c.in-Head.is
