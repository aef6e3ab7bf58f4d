-- How the prover stores a cell, so that cells may stand in the value of a model: its tokens.
use Rattle.std.specs.Prelude.{◌≡◌, ℕ, zero, suc, ◌==◌, ℤ, pos, Bool, true, false, cond, List, []}
use Rattle.std.specs.Prelude.{◌∷◌, refl}
use Rattle.std.specs.Coded.{Coded, code_by, coded×, coded_list, coded_ℕ, coded_ℤ}
use Rattle.std.proofs.Common.{ap, ◌∙◌}
use Rattle.col_model.specs.Cell.{Cell, Elements, null, whole, truth, parts, octets, list}
use Rattle.col_model.specs.Cell.{no_elements, element, element_count}

-- a token: the number of a cell's variant, a count, a number, numbers, and bytes
abbrev pub Token : Type 0
Token = ℕ × (ℕ × (ℤ × (List ℤ × List ℕ)))

-- a token of these parts
abbrev pub token : ℕ → ℕ → ℤ → List ℤ → List ℕ → Token
token variant m n ns bytes = (variant, (m, (n, (ns, bytes))))

-- true as 1, false as 0
abbrev pub truth_number : Bool → ℕ
truth_number true = 1
truth_number false = 0

-- only true is 1
pub truth_number-one : (b : Bool) → (truth_number b == 1) ≡ b
truth_number-one true = refl
truth_number-one false = refl

-- elements, and behind them others
abbrev pub joined : Elements → Elements → Elements
joined no_elements others = others
joined (element c es) others = element c (joined es others)

-- so many elements of the front
abbrev pub front : ℕ → Elements → Elements
front zero es = no_elements
front (suc n) no_elements = no_elements
front (suc n) (element c es) = element c (front n es)

-- what is behind so many elements
abbrev pub behind : ℕ → Elements → Elements
behind zero es = es
behind (suc n) no_elements = no_elements
behind (suc n) (element c es) = behind n es

-- the front of joined elements is the first ones
front-joined : (es others : Elements) → front (element_count es) (joined es others) ≡ es
front-joined no_elements others = refl
front-joined (element c es) others = ap (element c) (front-joined es others)

-- behind the first ones of joined elements are the others
behind-joined : (es others : Elements) → behind (element_count es) (joined es others) ≡ others
behind-joined no_elements others = refl
behind-joined (element c es) others = behind-joined es others

-- the tokens of a cell, those of a list's elements behind its own, in front of further tokens
abbrev mutual
  pub cell_tokens : Cell → List Token → List Token
  cell_tokens null rest = token 0 0 (pos 0) [] [] ∷ rest
  cell_tokens (whole n) rest = token 1 0 n [] [] ∷ rest
  cell_tokens (truth b) rest = token 2 (truth_number b) (pos 0) [] [] ∷ rest
  cell_tokens (parts ns) rest = token 3 0 (pos 0) ns [] ∷ rest
  cell_tokens (octets bytes) rest = token 4 0 (pos 0) [] bytes ∷ rest
  cell_tokens (list es) rest = token 5 (element_count es) (pos 0) [] [] ∷ element_tokens es rest

  pub element_tokens : Elements → List Token → List Token
  element_tokens no_elements rest = rest
  element_tokens (element c es) rest = cell_tokens c (element_tokens es rest)

-- the cell of a token in front of the cells behind it, some of which are its elements
abbrev pub placed : ℕ → ℕ → ℤ → List ℤ → List ℕ → Elements → Elements
placed variant m n ns bytes cells =
    cond (variant == 0) (element null cells) (
    cond (variant == 1) (element (whole n) cells) (
    cond (variant == 2) (element (truth (m == 1)) cells) (
    cond (variant == 3) (element (parts ns) cells) (
    cond (variant == 4) (element (octets bytes) cells) (
    element (list (front m cells)) (behind m cells))))))

-- the cells of tokens
abbrev pub cells_at : List Token → Elements
cells_at [] = no_elements
cells_at (t ∷ ts) = placed t.0 t.1.0 t.1.1.0 t.1.1.1.0 t.1.1.1.1 (cells_at ts)

-- a cell is read from its tokens
mutual
  pub cells_at-cell_tokens : (c : Cell) (rest : List Token)
      → cells_at (cell_tokens c rest) ≡ element c (cells_at rest)
  cells_at-cell_tokens null rest = refl
  cells_at-cell_tokens (whole n) rest = refl
  cells_at-cell_tokens (truth b) rest =
      ap (λ v. element (truth v) (cells_at rest)) (truth_number-one b)
  cells_at-cell_tokens (parts ns) rest = refl
  cells_at-cell_tokens (octets bytes) rest = refl
  cells_at-cell_tokens (list es) rest =
      rw (
        cells_at-element_tokens es rest,
        front-joined es (cells_at rest),
        behind-joined es (cells_at rest),
      ) refl

  pub cells_at-element_tokens : (es : Elements) (rest : List Token)
      → cells_at (element_tokens es rest) ≡ joined es (cells_at rest)
  cells_at-element_tokens no_elements rest = refl
  cells_at-element_tokens (element c es) rest =
      cells_at-cell_tokens c (element_tokens es rest)
      ∙ ap (element c) (cells_at-element_tokens es rest)

-- the first of some elements
abbrev pub first_of : Elements → Cell
first_of no_elements = null
first_of (element c es) = c

-- the code of cells, for models whose value holds some
abbrev pub cell_code : Coded Cell
cell_code =
    code_by (List Token)
    (coded_list (coded× coded_ℕ (coded× coded_ℕ (coded× coded_ℤ
    (coded× (coded_list coded_ℤ) (coded_list coded_ℕ))))))
    (λ c. cell_tokens c []) (λ ts. first_of (cells_at ts))
    (λ c. ap first_of (cells_at-cell_tokens c []))
