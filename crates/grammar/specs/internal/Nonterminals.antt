-- The nonterminals as constants: the positions of their names (`nonterminals_named` in proofs/).
use Rattle.std.specs.Prelude.{ℕ}

abbrev pub program : ℕ
program = 1

abbrev pub declarations : ℕ
declarations = 2

abbrev pub declaration : ℕ
declaration = 3

abbrev pub alias : ℕ
alias = 4

abbrev pub interface : ℕ
interface = 5

abbrev pub interface_rest : ℕ
interface_rest = 6

abbrev pub methods : ℕ
methods = 7

abbrev pub method : ℕ
method = 8

abbrev pub body : ℕ
body = 9

abbrev pub functions : ℕ
functions = 10

abbrev pub function : ℕ
function = 11

abbrev pub definition : ℕ
definition = 12

abbrev pub mutable : ℕ
mutable = 13

abbrev pub fields : ℕ
fields = 14

abbrev pub field : ℕ
field = 15

abbrev pub field_name : ℕ
field_name = 16

abbrev pub parameters : ℕ
parameters = 17

abbrev pub parameter : ℕ
parameter = 18

abbrev pub variants : ℕ
variants = 19

abbrev pub variant : ℕ
variant = 20

abbrev pub payload_types : ℕ
payload_types = 21

abbrev pub type_parameters : ℕ
type_parameters = 22

abbrev pub name_list : ℕ
name_list = 23

abbrev pub more_names : ℕ
more_names = 24

abbrev pub block : ℕ
block = 25

abbrev pub statements : ℕ
statements = 26

abbrev pub statement : ℕ
statement = 27

abbrev pub binding : ℕ
binding = 28

abbrev pub assignment : ℕ
assignment = 29

abbrev pub tilde_statement : ℕ
tilde_statement = 30

abbrev pub loop_or_complement : ℕ
loop_or_complement = 31

abbrev pub expressions : ℕ
expressions = 32

abbrev pub expression : ℕ
expression = 33

abbrev pub literal : ℕ
literal = 34

abbrev pub try_or_closure : ℕ
try_or_closure = 35

abbrev pub type_arguments : ℕ
type_arguments = 36

abbrev pub word_list : ℕ
word_list = 37

abbrev pub more_words : ℕ
more_words = 38

abbrev pub cast_rest : ℕ
cast_rest = 39

abbrev pub selector : ℕ
selector = 40

abbrev pub arms : ℕ
arms = 41

abbrev pub arm : ℕ
arm = 42

abbrev pub payloads3 : ℕ
payloads3 = 43

abbrev pub payloads2 : ℕ
payloads2 = 44

abbrev pub payloads1 : ℕ
payloads1 = 45

abbrev pub payload : ℕ
payload = 46

abbrev pub types : ℕ
types = 47

abbrev pub type : ℕ
type = 48

abbrev pub parenthesized : ℕ
parenthesized = 49

abbrev pub struct_parameters : ℕ
struct_parameters = 50
