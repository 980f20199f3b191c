-- The definitions tried on worked cells, by computation.
use Rattle.std.proofs.Common.{◌≡◌, pos, negsuc, Some, None, refl, []}
use Rattle.std.specs.Prelude.{codes}
use Rattle.csv.specs.Machine.{next_record}
use Rattle.csv.specs.Reading.{strip_bom}
use Rattle.sp_rows.specs.Numbers.{number_of}
use Rattle.sp_rows.specs.Cells.{row_cells, blank}

plus_sign : number_of 0 (codes "+1") ≡ Some (pos 1)
plus_sign = refl

minus_sign : number_of 2 (codes "-0.50") ≡ Some (negsuc 49)
minus_sign = refl

minus_zero : number_of 0 (codes "-0") ≡ Some (pos 0)
minus_zero = refl

zeros_past_the_scale : number_of 2 (codes "1.500") ≡ Some (pos 150)
zeros_past_the_scale = refl

decimals_past_the_scale : number_of 2 (codes "1.505") ≡ None
decimals_past_the_scale = refl

zeros_past_a_whole_number : number_of 0 (codes "7.0") ≡ Some (pos 7)
zeros_past_a_whole_number = refl

blanks_round : number_of 0 (codes " 7 ") ≡ Some (pos 7)
blanks_round = refl

blank_within : number_of 0 (codes "- 7") ≡ None
blank_within = refl

no_decimals : number_of 2 (codes "1.") ≡ None
no_decimals = refl

no_whole : number_of 2 (codes ".5") ≡ None
no_whole = refl

two_points : number_of 2 (codes "1.5.0") ≡ None
two_points = refl

nothing : number_of 2 (codes " ") ≡ None
nothing = refl

sign_alone : number_of 2 (codes "+") ≡ None
sign_alone = refl

two_signs : number_of 2 (codes "+-1") ≡ None
two_signs = refl

at_the_bound : number_of 0 (codes "1000000000000000") ≡ Some (pos 1000000000000000)
at_the_bound = refl

past_the_bound : number_of 0 (codes "1000000000000001") ≡ None
past_the_bound = refl

past_the_bound_by_its_scale : number_of 2 (codes "10000000000000.01") ≡ None
past_the_bound_by_its_scale = refl

zeros_in_front : number_of 0 (codes "00000000000000000000007") ≡ Some (pos 7)
zeros_in_front = refl

no_bytes : row_cells [] ≡ blank
unfolding next_record strip_bom
no_bytes = refl
