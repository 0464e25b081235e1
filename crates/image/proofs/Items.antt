-- The kinds of item that an image has, and the frame of a section. Assumes nothing.
use mathlib.Core.Path.{◌≡◌, refl, sym, ap, ◌∙◌}
use mathlib.Core.List.{List, [], ◌∷◌, ◌++◌}
use Prim.Native.Nat.{ℕ, ◌+◌, ◌*◌, ◌/◌, ◌%◌, ◌≤◌, ◌<◌}
use native.Mathlib.Omega.{arith}
use lib.IntN.{ℤ}
use lib.ListN.{length, take, drop, take-append-drop, get_or-append}
use lib.Seq.{drop_at, get_or-take, drop-drop, length-take-le}
use mir.Syntax.{w32}
use mir.Val.{SFits, to_z, of_z}
use mir.ValLaws.{to_z-of_z, of_z-to_z, of_z_fits}
use Rattle.whole.proofs.Table.{is_table}
use Rattle.words.specs.Words.{byte_at, two_at, word_at, two_bytes, word_bytes}
use Rattle.image.specs.Joins.{Join}
use Rattle.image.specs.Image.{count, items, after, bytes, signed_bytes, join_bytes, section_bytes}
use Rattle.image.proofs.Bytes.{byte_from, word_from}
use Rattle.image.proofs.ItemKinds.{Bytes, Kind}

-- ---- a 4-byte unsigned number

word_back : (u : ℕ) (rest : List ℕ) → u < 4294967296 → word_at (word_bytes u ++ rest) 0 ≡ u
unfolding word_at
word_back u rest h = omega arith

-- the lowest byte of a number
low : (q y m : ℕ) → y < 256 → q ≡ y + 256 * m → q % 256 ≡ y
low q y m h e = omega arith

word_same : (b : List ℕ) → Bytes b → 4 ≤ length b → word_bytes (word_at b 0) ≡ take 4 b
unfolding word_at
word_same [] h l = let z : ⊥ = omega arith in absurd z
word_same (x ∷ []) h l = let z : ⊥ = omega arith in absurd z
word_same (x ∷ y ∷ []) h l = let z : ⊥ = omega arith in absurd z
word_same (x ∷ y ∷ z ∷ []) h l = let z : ⊥ = omega arith in absurd z
word_same (x ∷ y ∷ z ∷ t ∷ b) h l =
    let hx : x < 256 = h 0 in
    let hy : y < 256 = h 1 in
    let hz : z < 256 = h 2 in
    let ht : t < 256 = h 3 in
    let u = x + 256 * y + 65536 * z + 16777216 * t in
    let e0 : u % 256 ≡ x = omega arith in
    let d1 : u / 256 ≡ y + 256 * z + 65536 * t = omega arith in
    let d2 : u / 65536 ≡ z + 256 * t = omega arith in
    let e1 : u / 256 % 256 ≡ y = low (u / 256) y (z + 256 * t) hy (omega arith) in
    let e2 : u / 65536 % 256 ≡ z = low (u / 65536) z t hz (omega arith) in
    let e3 : u / 16777216 ≡ t = omega arith in
    cc

word_small : (b : List ℕ) → Bytes b → word_at b 0 < 4294967296
unfolding word_at
word_small b h = omega (arith, h 0, h 1, h 2, h 3)

pub word_kind : Kind word_at 4 word_bytes (λ u. u < 4294967296)
word_kind = record { further = λ b p. sym (word_from b 4 p); back = word_back; long = λ u. refl; same = word_same }

-- ---- a 4-byte signed number

abbrev pub signed_at : List ℕ → ℕ → ℤ
signed_at b p = to_z w32 (word_at b p)

signed_back : (x : ℤ) (rest : List ℕ) → SFits w32 x → signed_at (signed_bytes x ++ rest) 0 ≡ x
signed_back x rest h = ap (to_z w32) (word_back (of_z w32 x) rest (of_z_fits w32 x h).fits) ∙ to_z-of_z w32 x h

signed_same : (b : List ℕ) → Bytes b → 4 ≤ length b → signed_bytes (signed_at b 0) ≡ take 4 b
signed_same b h l = ap word_bytes (of_z-to_z w32 (word_at b 0) (record { fits = word_small b h })) ∙ word_same b h l

pub signed_kind : Kind signed_at 4 signed_bytes (λ x. SFits w32 x)
signed_kind = record { further = λ b p. ap (to_z w32) (sym (word_from b 4 p)); back = signed_back; long = λ x. refl; same = signed_same }

-- ---- a join

abbrev pub join_at : List ℕ → ℕ → Join
join_at b p = record { from = byte_at b p; to = byte_at b (p + 1); weight = byte_at b (p + 2) }

join_further : (b : List ℕ) (p : ℕ) → join_at b (3 + p) ≡ join_at (drop 3 b) p
join_further b p =
    let e0 = byte_from b 3 p in
    let e1 : byte_at (drop 3 b) (p + 1) ≡ byte_at b (3 + p + 1) = byte_from b 3 (p + 1) ∙ ap (byte_at b) (omega arith) in
    let e2 : byte_at (drop 3 b) (p + 2) ≡ byte_at b (3 + p + 2) = byte_from b 3 (p + 2) ∙ ap (byte_at b) (omega arith) in
    sym (rw (e0, e1, e2))

join_same : (b : List ℕ) → Bytes b → 3 ≤ length b → join_bytes (join_at b 0) ≡ take 3 b
join_same [] h l = let z : ⊥ = omega arith in absurd z
join_same (x ∷ []) h l = let z : ⊥ = omega arith in absurd z
join_same (x ∷ y ∷ []) h l = let z : ⊥ = omega arith in absurd z
join_same (x ∷ y ∷ z ∷ b) h l = refl

pub join_kind : Kind join_at 3 join_bytes (λ join. Unit {0})
join_kind = record { further = join_further; back = λ join rest h. refl; long = λ join. refl; same = join_same }

-- ---- bytes as they are

pub bytes_front : (k : ℕ) (b : List ℕ) → k ≤ length b → bytes k b ≡ take k b
bytes_front k b h =
    sym (is_table (λ i. byte_at b i) k 0 (take k b) (length-take-le k b h) (λ i p. get_or-take k b i 0 p))

pub bytes_back : (xs rest : List ℕ) → bytes (length xs) (xs ++ rest) ≡ xs
bytes_back xs rest = sym (is_table (λ i. byte_at (xs ++ rest) i) (length xs) 0 xs refl (λ i p. sym (get_or-append xs rest 0 i p)))

-- ---- a section: its count, its body, and what follows

pub count_back : (k : ℕ) (rest : List ℕ) → count (two_bytes k ++ rest) ≡ k
unfolding two_at
count_back k rest = omega arith

pub after_back : (size k : ℕ) (body rest : List ℕ) → size * k ≡ length body → after size (section_bytes k body ++ rest) ≡ rest
after_back size k body rest e =
    let c = count_back k (body ++ rest) in
    let s : 2 + size * count (section_bytes k body ++ rest) ≡ 2 + length body = ap (λ m. 2 + size * m) c ∙ ap (λ m. 2 + m) e in
    ap (λ m. drop m (section_bytes k body ++ rest)) s ∙ drop_at (section_bytes k body) rest (2 + length body) (omega arith)

count_same : (b : List ℕ) → Bytes b → 2 ≤ length b → two_bytes (count b) ≡ take 2 b
unfolding two_at
count_same [] h l = let z : ⊥ = omega arith in absurd z
count_same (x ∷ []) h l = let z : ⊥ = omega arith in absurd z
count_same (x ∷ y ∷ b) h l =
    let hx : x < 256 = h 0 in
    let hy : y < 256 = h 1 in
    let e : (x + 256 * y) % 256 ≡ x = omega arith in
    let f : (x + 256 * y) / 256 ≡ y = omega arith in
    cc

-- a section that is there is its count, its body and what follows
pub section_same :
    (size : ℕ) (b body : List ℕ) → Bytes b → 2 + size * count b ≤ length b → body ≡ take (size * count b) (items b) →
    section_bytes (count b) body ++ after size b ≡ b
section_same size b body h l e =
    let m = size * count b in
    let back : take m (items b) ++ drop (2 + m) b ≡ items b =
    ap (λ t. take m (items b) ++ t) (sym (drop-drop m 2 b)) ∙ take-append-drop m (items b) in
    ap (λ t. section_bytes (count b) t ++ after size b) e
    ∙ ap (λ t. two_bytes (count b) ++ t) back
    ∙ ap (λ t. t ++ items b) (count_same b h (omega arith))
    ∙ take-append-drop 2 b
