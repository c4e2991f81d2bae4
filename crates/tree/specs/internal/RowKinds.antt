-- The kinds of rows as constants: the positions of their names (`row_kinds_named` in proofs/).
use Rattle.std.specs.Prelude.{ℕ}

abbrev pub program_row : ℕ
program_row = 1

abbrev pub import_row : ℕ
import_row = 2

abbrev pub foreign_row : ℕ
foreign_row = 3

abbrev pub trait_row : ℕ
trait_row = 4

abbrev pub impl_row : ℕ
impl_row = 5

abbrev pub function_row : ℕ
function_row = 6

abbrev pub struct_row : ℕ
struct_row = 7

abbrev pub enum_row : ℕ
enum_row = 8

abbrev pub constant_row : ℕ
constant_row = 9

abbrev pub header_row : ℕ
header_row = 10

abbrev pub parameter_row : ℕ
parameter_row = 11

abbrev pub variant_row : ℕ
variant_row = 12

abbrev pub list_row : ℕ
list_row = 13

abbrev pub block_row : ℕ
block_row = 14

abbrev pub let_row : ℕ
let_row = 15

abbrev pub set_name_row : ℕ
set_name_row = 16

abbrev pub set_element_row : ℕ
set_element_row = 17

abbrev pub defer_row : ℕ
defer_row = 18

abbrev pub while_row : ℕ
while_row = 19

abbrev pub foreach_row : ℕ
foreach_row = 20

abbrev pub literal_row : ℕ
literal_row = 21

abbrev pub name_row : ℕ
name_row = 22

abbrev pub binary_row : ℕ
binary_row = 23

abbrev pub not_row : ℕ
not_row = 24

abbrev pub return_row : ℕ
return_row = 25

abbrev pub complement_row : ℕ
complement_row = 26

abbrev pub try_row : ℕ
try_row = 27

abbrev pub closure_row : ℕ
closure_row = 28

abbrev pub sizeof_row : ℕ
sizeof_row = 29

abbrev pub aggregate_row : ℕ
aggregate_row = 30

abbrev pub slice_row : ℕ
slice_row = 31

abbrev pub conditional_row : ℕ
conditional_row = 32

abbrev pub call_row : ℕ
call_row = 33

abbrev pub member_row : ℕ
member_row = 34

abbrev pub cast_row : ℕ
cast_row = 35

abbrev pub match_row : ℕ
match_row = 36

abbrev pub arm_row : ℕ
arm_row = 37

abbrev pub payload_row : ℕ
payload_row = 38

abbrev pub base_type_row : ℕ
base_type_row = 39

abbrev pub pointer_row : ℕ
pointer_row = 40

abbrev pub optional_row : ℕ
optional_row = 41

abbrev pub slice_type_row : ℕ
slice_type_row = 42

abbrev pub result_row : ℕ
result_row = 43

abbrev pub function_type_row : ℕ
function_type_row = 44

abbrev pub instance_row : ℕ
instance_row = 45

abbrev pub named_type_row : ℕ
named_type_row = 46
