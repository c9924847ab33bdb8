-- `sale::survey::survey_ways` meets its contract: the walk notes all ways in a survey that has none yet.
use mathlib.Core.Path.{ap, ◌∙◌}
use mathlib.Core.List.{map}
use lib.ListN.{drop}
use Rattle.sale.specs.Ways.{ways, mask_sum, way_sizes}
use Rattle.sale.specs.Passes.{survey_of}
use Rattle.sale.proofs.SurveyLaws.{start_unfilled, survey_noted}
use Rattle.sale.proofs.survey.survey_ways.Goals as goal

pub note_ways-requires : goal.note_ways-requires
note_ways-requires c = start_unfilled c.requires.0.few c.args.types

pub returns : goal.returns
unfolding way_sizes
returns c =
    let a = c.args in
    survey_noted _ _ _ c.note_ways.ensures
    ∙ ap (λ table. survey_of (map (λ m. mask_sum m (drop 1 table)) (ways a.groups a.types))) c.size_table.ensures
