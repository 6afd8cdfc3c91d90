use Rattle.std.proofs.Common.{rules}
use mathlib.Core.Path.{◌≡◌, sym, ◌∙◌}
use lib.ListN.{length, replicate}
use Rattle.overlay.proofs.Outcomes.{road_light, full_so, built_so, long_zeros, zeros_of}
use Rattle.search.proofs.States.{left_so}
use Rattle.overlay.proofs.calls.build.Goals.{then-lack_room, else-lack_room}
use Rattle.overlay.proofs.calls.build.Goals as goal

pub write_arcs-requires-clause-light : goal.write_arcs-requires-clause-light
write_arcs-requires-clause-light c = road_light _ _ _ _ c.requires.sound

pub returns-clause-outcome : goal.returns-clause-outcome
returns-clause-outcome c =
    let counted = c.count_arcs-count.ensures.queue in
    let labels : c.fill.new.self ≡ replicate (length c.if-lack_room.work.labels.now) 0 = search rules in
    elim c.if-lack_room.branch [
      | then-lack_room w ↦
          let heap = sym counted.slices.heap in
          let places = sym counted.slices.places in
          rw w.rooms-is (rw w.answer-is (rw w.work-is (full_so _ _ _ _ _ c.requires _ _ _ _
          (zeros_of _ _ _ labels (rw w.work-is (c.count_arcs-count.auto.labels ∙ long_zeros c.clear.ensures.labels ∙ c.requires.labels_long)))
          (left_so (counted.heap ∙ c.clear.ensures.heap) (search rules)) (left_so (counted.places ∙ c.clear.ensures.places) (search rules)) c.clear.ensures.touched _
          c.count_arcs-count.ensures.arcs_in_all (c.lack_room.ensures.yes w.if-lack_room.true))))
      | else-lack_room w ↦
          let written = w.write_arcs.ensures.queue in
          let heap = sym (written.slices.heap ∙ counted.slices.heap) in
          let places = sym (written.slices.places ∙ counted.slices.places) in
          rw w.rooms-is (rw w.answer-is (rw w.work-is (built_so _ _ _ _ _ c.requires _ _ _ _
          (zeros_of _ _ _ labels (rw w.work-is (w.write_arcs.auto.labels ∙ c.count_arcs-count.auto.labels ∙ long_zeros c.clear.ensures.labels ∙ c.requires.labels_long)))
          (left_so (written.heap ∙ counted.heap ∙ c.clear.ensures.heap) (search rules)) (left_so (written.places ∙ counted.places ∙ c.clear.ensures.places) (search rules))
          c.clear.ensures.touched _ c.count_arcs-count.ensures.arcs_in_all (c.lack_room.ensures.no w.if-lack_room.false) _ _ _ _ w.write_arcs.ensures.building)))
    ]
