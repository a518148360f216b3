-- One action, asked of its words.
use Rattle.std.specs.Prelude.{ℕ, zero, suc, ◌/◌, ◌%◌, Bool, true, false, ◌&&◌, ◌||◌, not, List, get_or, drop, eqb, leb, ltb}
use Rattle.std.specs.List.{list_all}
use Rattle.prelude.specs.Base.{when◌then◌else◌}

abbrev pub zeros : List ℕ → Bool
zeros words = list_all (λ w. eqb w 0) words

-- Values.

module _ (temporaries subtables : ℕ) where
  unfoldable pub number_fit : ℕ → ℕ → Bool
  number_fit kind number =
      when ltb kind 2 then eqb number 0
      else when ltb kind 4 then true
      else when ltb kind 6 then ltb number subtables
      else when eqb kind 6 then ltb number temporaries
      else eqb kind 7

  -- a value's two words
  unfoldable pub value_fit : Bool → ℕ → ℕ → Bool
  value_fit sized number word =
      ltb word 1099511627776 && (not sized || not (eqb (word / 16777216) 65535)) && number_fit (word % 256) number

  -- the same of a list of them
  abbrev pub fits : Bool → List ℕ → Bool
  fits sized value = value_fit sized (get_or value 0 0) (get_or value 1 0)

  -- n inputs, and zeros behind them
  unfoldable pub values_fit : Bool → ℕ → List ℕ → Bool
  values_fit sized zero r = zeros r
  values_fit sized (suc n) r = value_fit sized (get_or r 0 0) (get_or r 1 0) && values_fit sized n (drop 2 r)

  unfoldable pub inputs_fit : Bool → List ℕ → Bool
  inputs_fit sized w = leb (get_or w 3 0) 8 && values_fit sized (get_or w 3 0) (drop 6 w)

unfoldable pub has_output : ℕ → ℕ → ℕ → Bool
has_output kind number word =
    when eqb kind 0 then not (eqb number 0) || not (eqb word 255)
    else when ltb kind 3 then true
    else not (eqb number 0) || not (eqb word 0)

-- Operations, by what is asked of them; unknown is none.

pub data Row : Type 0 where
  triple : Row
  shift : Row
  comparison : Row
  boolean : Row
  negation : Row
  same : Row
  tested : Row
  free : Row
  load : Row
  store : Row
  branch : Row
  condition : Row
  label : Row
  user : Row
  argument : Row
  invalid : Row
  unknown : Row

unfoldable pub row_of : ℕ → Row
row_of op =
    when ltb op 7 then triple
    else when ltb op 10 then shift
    else when ltb op 16 then comparison
    else when ltb op 20 then triple
    else when ltb op 24 then comparison
    else when ltb op 27 then triple
    else when ltb op 30 then boolean
    else when ltb op 33 then comparison
    else when ltb op 39 then unknown
    else when eqb op 39 then negation
    else when ltb op 42 then same
    else when eqb op 42 then tested
    else when ltb op 45 then free
    else when ltb op 51 then same
    else when ltb op 57 then free
    else when eqb op 57 then same
    else when eqb op 58 then load
    else when eqb op 59 then store
    else when eqb op 60 then branch
    else when eqb op 61 then condition
    else when eqb op 62 then label
    else when eqb op 63 then user
    else when eqb op 64 then argument
    else when eqb op 65 then invalid
    else unknown

-- The number, the input count, whether there is an output, and the sizes of the two inputs and the output.

module _ (pointer : ℕ) where
  unfoldable pub row_fit : Row → ℕ → ℕ → Bool → ℕ → ℕ → ℕ → Bool
  row_fit triple number n output in0 in1 out = eqb n 2 && output && eqb number 0 && eqb in0 in1 && eqb in0 out
  row_fit shift number n output in0 in1 out = eqb n 2 && output && eqb number 0 && eqb in0 out
  row_fit comparison number n output in0 in1 out = eqb n 2 && output && eqb number 0 && eqb in0 in1 && eqb out 1
  row_fit boolean number n output in0 in1 out = eqb n 2 && output && eqb number 0 && eqb in0 1 && eqb in1 1 && eqb out 1
  row_fit negation number n output in0 in1 out = eqb n 1 && output && eqb number 0 && eqb in0 1 && eqb out 1
  row_fit same number n output in0 in1 out = eqb n 1 && output && eqb number 0 && eqb in0 out
  row_fit tested number n output in0 in1 out = eqb n 1 && output && eqb number 0 && eqb out 1
  row_fit free number n output in0 in1 out = eqb n 1 && output && eqb number 0
  row_fit load number n output in0 in1 out = eqb n 1 && output && eqb number 0 && eqb in0 pointer
  row_fit store number n output in0 in1 out = eqb n 2 && not output && eqb number 0 && eqb in0 pointer
  row_fit branch number n output in0 in1 out = eqb n 2 && not output && ltb number 3 && eqb in0 1
  row_fit condition number n output in0 in1 out = eqb n 2 && not output && ltb number 256 && eqb in0 1
  row_fit label number n output in0 in1 out = eqb n 0 && not output && ltb number 256
  row_fit user number n output in0 in1 out = ltb number 256 && (not output || leb n 2)
  row_fit argument number n output in0 in1 out = eqb n 1 && not output && ltb number 6
  row_fit invalid number n output in0 in1 out = eqb n 0 && not output && eqb number 0
  row_fit unknown number n output in0 in1 out = false

  unfoldable pub operation_fit : Bool → List ℕ → Bool
  operation_fit output w =
      row_fit (row_of (get_or w 1 0)) (get_or w 2 0) (get_or w 3 0) output (get_or w 7 0 / 16777216) (get_or w 9 0 / 16777216) (get_or w 5 0 / 16777216)

-- Other actions have no operation; an AddressOf's base is unsized at offset 0.
unfoldable pub kind_fit : ℕ → ℕ → ℕ → ℕ → ℕ → Bool → ℕ → Bool
kind_fit subtables kind op number n output base =
    when eqb kind 1 then eqb op 0 && eqb number 0 && eqb n 1 && output && eqb (base / 256) 4294901760
    else when eqb kind 2 then eqb op 0 && ltb number 1025 && eqb n 1 && output
    else when eqb kind 3 then eqb op 0 && ltb number 1025 && eqb n 2 && not output
    else when eqb kind 4 then eqb op 0 && eqb number 0 && eqb n 0 && not output
    else when eqb kind 5 then eqb op 0 && ltb number subtables && eqb n 0 && not output
    else false

unfoldable pub head_fit : ℕ → ℕ → Bool → List ℕ → Bool
head_fit subtables pointer output w =
    when eqb (get_or w 0 0) 0 then operation_fit pointer output w
    else kind_fit subtables (get_or w 0 0) (get_or w 1 0) (get_or w 2 0) (get_or w 3 0) output (get_or w 7 0)

unfoldable pub output_there : List ℕ → Bool
output_there w = has_output (get_or w 0 0) (get_or w 4 0) (get_or w 5 0)

unfoldable pub action_fit : ℕ → ℕ → ℕ → List ℕ → Bool
action_fit temporaries subtables pointer w =
    (not (output_there w) || value_fit temporaries subtables (eqb (get_or w 0 0) 0) (get_or w 4 0) (get_or w 5 0))
    && inputs_fit temporaries subtables (eqb (get_or w 0 0) 0) w
    && head_fit subtables pointer (output_there w) w
