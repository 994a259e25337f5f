-- The families of tokens: what kind of work a token asks for. src/family.rt has the same names for the code. Assumes nothing.
use Rattle.std.specs.Prelude.{ℕ, List, [], ◌∷◌}

-- not in the list
abbrev pub unlisted : ℕ
unlisted = 0

-- what it gives is reckoned from its operand and the cells on the stacks
abbrev pub plain : ℕ
plain = 1

abbrev pub finish : ℕ
finish = 2

-- bbranch
abbrev pub always : ℕ
always = 3

-- b?branch
abbrev pub choice : ℕ
choice = 4

-- b(")
abbrev pub text : ℕ
text = 5

-- offset16
abbrev pub widen : ℕ
widen = 6

-- u/mod, which a divisor of zero refuses
abbrev pub divide : ℕ
divide = 7

abbrev pub pick_up : ℕ
pick_up = 8

abbrev pub roll_up : ℕ
roll_up = 9

-- ?dup
abbrev pub maybe : ℕ
maybe = 10

-- exit and b(;)
abbrev pub leave : ℕ
leave = 11

-- @ and c@
abbrev pub fetch : ℕ
fetch = 12

-- ! and c!
abbrev pub store : ℕ
store = 13

-- new-token, named-token, external-token
abbrev pub define : ℕ
define = 14

-- b(:), b(value), b(variable), b(constant) behind such a head
abbrev pub kind : ℕ
kind = 15

-- b(to)
abbrev pub assign : ℕ
assign = 16

-- a program number
abbrev pub call : ℕ
call = 17

abbrev pub encode_int : ℕ
encode_int = 18

abbrev pub encode_string : ℕ
encode_string = 19

-- encode+
abbrev pub join : ℕ
join = 20

abbrev pub property : ℕ
property = 21

-- device-name, model, device-type
abbrev pub titled : ℕ
titled = 22

abbrev pub new_device : ℕ
new_device = 23

abbrev pub finish_device : ℕ
finish_device = 24

-- all of them, as the code has them
abbrev pub families : List ℕ
families =
    unlisted ∷ plain ∷ finish ∷ always ∷ choice ∷ text ∷ widen ∷ divide ∷ pick_up ∷ roll_up ∷ maybe ∷ leave ∷ fetch ∷ store ∷ define
    ∷ kind ∷ assign ∷ call ∷ encode_int ∷ encode_string ∷ join ∷ property ∷ titled ∷ new_device ∷ finish_device ∷ []
