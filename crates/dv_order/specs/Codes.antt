-- Codes of keys: a class and two numbers, which never decrease as the key grows within the class. In some classes the code determines the key.
use Rattle.std.specs.Prelude.{ℕ, zero, suc, ◌+◌, ◌*◌, ◌-◌, ◌^◌, ◌==◌, nat_lt, ℤ, pos, negsuc, Bool, true, false, cond, List, [], ◌∷◌, ◌++◌}
use Rattle.std.specs.Int.{to_be_bytes, w32, w64}
use Rattle.dv_value.specs.Tree.{Tree, int32, int64, string, document, array, boolean, binary, object_id, date, null, timestamp, min_key, max_key}
use Rattle.dv_order.specs.Key.{KeyTree, no_element, value}

-- a byte as a digit in base 256; a number that is no byte counts as 256, and ends the digits
abbrev pub digit : ℕ → ℕ
digit b = cond (nat_lt b 256) b 256

-- the bytes after the digit b; none if b is no byte
abbrev pub behind : ℕ → List ℕ → List ℕ
behind b bs = cond (nat_lt b 256) bs []

-- the number acc, continued by the first n bytes as further digits in base 256; zeros if there are fewer bytes
abbrev pub lead : ℕ → ℕ → List ℕ → ℕ
lead zero acc bs = acc
lead (suc n) acc [] = lead n (acc * 256) []
lead (suc n) acc (b ∷ bs) = lead n (acc * 256 + digit b) (behind b bs)

-- the bytes after the first n
abbrev pub after : ℕ → List ℕ → List ℕ
after zero bs = bs
after (suc n) [] = []
after (suc n) (b ∷ bs) = after n (behind b bs)

-- a 64-bit integer counted from the least one, so that it is a natural number
abbrev pub offset : ℤ → ℕ
offset (pos n) = 2 ^ 63 + n
offset (negsuc n) = 2 ^ 63 - 1 - n

-- the integer with this offset
abbrev pub integer_at : ℕ → ℤ
integer_at n = cond (nat_lt n (2 ^ 63)) (negsuc (2 ^ 63 - 1 - n)) (pos (n - 2 ^ 63))

-- 0 for false, 1 for true
abbrev pub bit : Bool → ℕ
bit true = 1
bit false = 0

-- the first number of a value's code
abbrev pub value_high : Tree → ℕ
value_high (int32 n) = offset n
value_high (int64 n) = offset n
value_high (string s) = lead 8 0 s
value_high (document fs) = 0
value_high (array vs) = 0
value_high (boolean b) = bit b
value_high (binary subtype bytes) = 0
value_high (object_id id) = lead 8 0 id
value_high (date n) = offset n
value_high null = 0
value_high (timestamp n) = n
value_high min_key = 0
value_high max_key = 0

-- the second number of a value's code
abbrev pub value_low : Tree → ℕ
value_low (int32 n) = 0
value_low (int64 n) = 0
value_low (string s) = lead 4 0 (after 8 s)
value_low (document fs) = 0
value_low (array vs) = 0
value_low (boolean b) = 0
value_low (binary subtype bytes) = 0
value_low (object_id id) = lead 4 0 (after 8 id)
value_low (date n) = 0
value_low null = 0
value_low (timestamp n) = 0
value_low min_key = 0
value_low max_key = 0

-- the first number of a key's code
abbrev pub key_high : KeyTree → ℕ
key_high no_element = 0
key_high (value v) = value_high v

-- the second number of a key's code
abbrev pub key_low : KeyTree → ℕ
key_low no_element = 0
key_low (value v) = value_low v

-- the key with this code, for the classes in which the code determines the key
abbrev pub key_of_code : ℕ → ℕ → ℕ → KeyTree
key_of_code class high low =
    cond (class == 0) (value min_key)
    (cond (class == 1) no_element
    (cond (class == 2) (value null)
    (cond (class == 3) (value (int64 (integer_at high)))
    (cond (class == 8) (value (object_id (to_be_bytes w64 high ++ to_be_bytes w32 low)))
    (cond (class == 9) (value (boolean (high == 1)))
    (cond (class == 10) (value (date (integer_at high)))
    (cond (class == 11) (value (timestamp high)) (value max_key))))))))
