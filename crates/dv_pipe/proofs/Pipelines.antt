-- Pipelines parsed.
use Rattle.std.proofs.Common.{◌≡◌, ◌∙◌, ap, List, ◌<◌, ◌≤◌, take, map, length, Result, Ok, Err, arith, nat_le, true, false, if◌then◌else◌}
use Rattle.std.proofs.lemmas.List.{take-map, length-map}
use Rattle.dv_value.specs.Tree.{Tree}
use Rattle.dv_row.specs.declared.fault.PipelineFault.{PipelineFault}
use Rattle.dv_row.specs.declared.fault.PipelineFault.TheVariants.{TooMany}
use Rattle.dv_pipe.specs.declared.stage.Stage.{Stage}
use Rattle.dv_value.specs.Results.{◌>>=◌, each}
use Rattle.dv_value.specs.Inner.ListLaws.{take-past}
use Rattle.dv_pipe.specs.StageParsing.{stage_of, pipeline_of}

abbrev at_most : List Tree → List Stage → Result (List Stage) PipelineFault
at_most list stages = if nat_le (length list) 16 then Ok stages else Err TooMany

module _ {X : Type 0} (view : X → Tree) (list : List X) where
  pub many-fault : (e : PipelineFault) → each stage_of (map view (take 16 list)) ≡ Err e → pipeline_of (map view list) ≡ Err e
  unfolding pipeline_of
  many-fault e told = ap (λ r. r >>= at_most (map view list)) (ap (each stage_of) (take-map view 16 list) ∙ told)

  pub many : (stages : List Stage) → each stage_of (map view (take 16 list)) ≡ Ok stages → 16 < length list → pipeline_of (map view list) ≡ Err TooMany
  unfolding pipeline_of
  many stages parsed more =
      let above : nat_le (length (map view list)) 16 ≡ false = rw (length-map list view) (grind arith) in
      ap (λ r. r >>= at_most (map view list)) (ap (each stage_of) (take-map view 16 list) ∙ parsed) ∙ ap (λ b. if b then Ok stages else Err TooMany) above

  module _ (few : length list ≤ 16) where
    all : take 16 (map view list) ≡ map view list
    all = take-past (map view list) 16 (omega (arith, length-map list view))

    pub few-fault : (e : PipelineFault) → each stage_of (map view list) ≡ Err e → pipeline_of (map view list) ≡ Err e
    unfolding pipeline_of
    few-fault e told = ap (λ r. r >>= at_most (map view list)) (ap (each stage_of) all ∙ told)

    pub few-stages : (stages : List Stage) → each stage_of (map view list) ≡ Ok stages → pipeline_of (map view list) ≡ Ok stages
    unfolding pipeline_of
    few-stages stages parsed =
        let within : nat_le (length (map view list)) 16 ≡ true = rw (length-map list view) (grind arith) in
        ap (λ r. r >>= at_most (map view list)) (ap (each stage_of) all ∙ parsed) ∙ ap (λ b. if b then Ok stages else Err TooMany) within
