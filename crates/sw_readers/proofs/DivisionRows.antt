-- Sources divided, computed.
use Rattle.std.specs.Prelude.{◌≡◌, codes, Some, None, refl, []}
use Rattle.sw_readers.specs.Division.{division}

no_line : division (codes "{}\n{}\n") ≡ None
unfolding division
no_line = refl

nothing : division [] ≡ None
unfolding division
nothing = refl

at_the_start : division (codes "%%\na\n") ≡ Some ([], codes "a\n")
unfolding division
at_the_start = refl

in_the_middle : division (codes "a\nb\n%%\nc") ≡ Some (codes "a\nb\n", codes "c")
unfolding division
in_the_middle = refl

at_the_end_with_a_line_feed : division (codes "a\n%%\n") ≡ Some (codes "a\n", [])
unfolding division
at_the_end_with_a_line_feed = refl

at_the_end_without : division (codes "a\n%%") ≡ Some (codes "a\n", [])
unfolding division
at_the_end_without = refl

twice : division (codes "a\n%%\nb\n%%\nc\n") ≡ Some (codes "a\n", codes "b\n%%\nc\n")
unfolding division
twice = refl

no_other_line : division (codes "a%%\n%%b\n %%\n%%\r\n%\n%%%\n") ≡ None
unfolding division
no_other_line = refl
