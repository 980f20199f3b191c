-- Words in pairs as whole commands, from what is found at them.
use Rattle.std.proofs.Common.{◌≡◌, Bool, true, false, List, ◌∷◌, Some, ◌∙◌, refl, ap}
use Rattle.std.specs.Prelude.{option_and_then, codes}
use Rattle.clap.specs.Walk.{Row, Text, first_of}
use Rattle.sp_base.specs.Limits.{event_limit}
use Rattle.sp_cli.specs.Numbers.{number}
use Rattle.sp_cli.specs.Commands.{source_by, live_by, speed_by, slack_by, late_by, trees_by, proof_by, is_on, run_of, plain_of, trace_of, drill_of, check_of, graph_of, source_in, live_in, speed_in, slack_in, late_in, trees_in, proof_in, run_in, plain_in, trace_in, check_in, graph_in}
use Rattle.sp_cli.specs.Paired.{PairsAreFound, flag_text, value_of}
use Rattle.sp_cli.specs.PairedCommands.{source_said, live_said, speed_said, slack_said, late_said, trees_said, PairsAreCommands}

-- where each option is found that is said, it says the same
module _ (rows : List Row) (said : List (Text × Text)) (are : (id : Text) → first_of id rows ≡ value_of id said) where
  source_same : source_in rows ≡ source_said said
  source_same = λ i. source_by (λ id. are id i)

  live_same : live_in rows ≡ live_said said
  live_same = λ i. live_by (λ id. are id i)

  speed_same : speed_in rows ≡ speed_said said
  speed_same = λ i. speed_by (λ id. are id i)

  slack_same : slack_in rows ≡ slack_said said
  slack_same = λ i. slack_by (λ id. are id i)

  late_same : late_in rows ≡ late_said said
  late_same = λ i. late_by (λ id. are id i)

  trees_same : trees_in rows ≡ trees_said said
  trees_same = λ i. trees_by (λ id. are id i)

  proof_same : proof_in rows ≡ proof_by (λ id. value_of id said)
  proof_same = λ i. proof_by (λ id. are id i)

stands_is : (stands : Bool) → is_on (Some (flag_text stands)) ≡ stands
stands_is true = refl
stands_is false = refl

pub pairs_are_commands : PairsAreFound → PairsAreCommands
pairs_are_commands finds = record {
  run = λ proof words said pairs.
      let at = finds.run proof words said pairs in
      let all : List (Text × Text) = (codes "proof", flag_text proof) ∷ said in
      let stands : proof_in at.0 ≡ proof = proof_same at.0 all at.2 ∙ stands_is proof in
      ap (option_and_then run_in) at.1
      ∙ (λ i. run_of (source_same at.0 all at.2 i) (speed_same at.0 all at.2 i) (slack_same at.0 all at.2 i) (late_same at.0 all at.2 i) (trees_same at.0 all at.2 i) (stands i));
  plain = λ words said pairs.
      let at = finds.plain words said pairs in
      ap (option_and_then plain_in) at.1 ∙ (λ i. plain_of (source_same at.0 said at.2 i) (slack_same at.0 said at.2 i) (late_same at.0 said at.2 i));
  trace = λ words said pairs.
      let at = finds.trace words said pairs in
      ap (option_and_then trace_in) at.1 ∙ (λ i. trace_of (source_same at.0 said at.2 i) (at.2 (codes "schedule") i) (live_same at.0 said at.2 i));
  drill = λ events seed words said pairs.
      let at = finds.drill words said pairs in
      let speed = ap (option_and_then speed_in) at.1 ∙ speed_same at.0 said at.2 in
      ap (drill_of (number 10 1 event_limit events) (number 10 0 4294967295 seed)) speed;
  check = λ words said pairs.
      let at = finds.check words said pairs in
      ap (option_and_then check_in) at.1 ∙ (λ i. check_of (source_same at.0 said at.2 i) (at.2 (codes "list") i));
  graph = λ words said pairs.
      let at = finds.graph words said pairs in
      ap (option_and_then graph_in) at.1
      ∙ (λ i. graph_of (source_same at.0 said at.2 i) (at.2 (codes "then") i) (at.2 (codes "return") i) (speed_same at.0 said at.2 i));
}
