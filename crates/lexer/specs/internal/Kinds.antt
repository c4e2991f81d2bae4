-- The kinds of tokens as constants: the positions of their names (`kinds_named` in proofs/).
use Rattle.std.specs.Prelude.{ℕ}

abbrev pub ident : ℕ
ident = 1

abbrev pub keyword : ℕ
keyword = 2

abbrev pub boolean : ℕ
boolean = 3

abbrev pub sizeof : ℕ
sizeof = 4

abbrev pub int : ℕ
int = 5

abbrev pub float : ℕ
float = 6

abbrev pub string : ℕ
string = 7

abbrev pub dollar : ℕ
dollar = 8

abbrev pub ampersand : ℕ
ampersand = 9

abbrev pub at : ℕ
at = 10

abbrev pub percent : ℕ
percent = 11

abbrev pub colon : ℕ
colon = 12

abbrev pub bar : ℕ
bar = 13

abbrev pub equal : ℕ
equal = 14

abbrev pub semicolon : ℕ
semicolon = 15

abbrev pub tilde : ℕ
tilde = 16

abbrev pub left_brace : ℕ
left_brace = 17

abbrev pub right_brace : ℕ
right_brace = 18

abbrev pub left_paren : ℕ
left_paren = 19

abbrev pub right_paren : ℕ
right_paren = 20

abbrev pub left_bracket : ℕ
left_bracket = 21

abbrev pub right_bracket : ℕ
right_bracket = 22

abbrev pub bang : ℕ
bang = 23

abbrev pub caret : ℕ
caret = 24

abbrev pub backslash : ℕ
backslash = 25

abbrev pub question : ℕ
question = 26

abbrev pub dot : ℕ
dot = 27

abbrev pub hash : ℕ
hash = 28

abbrev pub star : ℕ
star = 29

abbrev pub plus : ℕ
plus = 30

abbrev pub minus : ℕ
minus = 31

abbrev pub slash : ℕ
slash = 32

abbrev pub less : ℕ
less = 33

abbrev pub greater : ℕ
greater = 34

abbrev pub equal_equal : ℕ
equal_equal = 35

abbrev pub bang_equal : ℕ
bang_equal = 36

abbrev pub less_equal : ℕ
less_equal = 37

abbrev pub greater_equal : ℕ
greater_equal = 38

abbrev pub less_less : ℕ
less_less = 39

abbrev pub greater_greater : ℕ
greater_greater = 40

abbrev pub question_question : ℕ
question_question = 41

abbrev pub arrow : ℕ
arrow = 42

-- the lowest and the highest kind
abbrev pub first_kind : ℕ
first_kind = ident

abbrev pub last_kind : ℕ
last_kind = arrow
