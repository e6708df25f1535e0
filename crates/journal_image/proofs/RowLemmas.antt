-- Rows of gates, whatever stands behind them.
use Rattle.std.proofs.Common.{◌≡◌, ◌≢◌, ◌∙◌, ◌⊎◌, inl, inr, ℕ, List, [], ◌∷◌, ◌++◌, refl, sym, ap, subst, append_assoc, append-nil}
use Rattle.journal_image.specs.Rows.{Goes, row_text, IsRow}

same_heads : (x y : ℕ) (xs ys : List ℕ) → x ∷ xs ≡ y ∷ ys → (x ≡ y) × (xs ≡ ys)
same_heads x y xs ys e = (cc, cc)

module _ {S I : Type 0} (Fits : S → I → Type 0) (text : S → I → List ℕ) (next : S → I → S) (Ended : S → Type 0) where
  pub goes-append : (s mid end : S) (things more : List I) → Goes Fits text next Ended s things mid → Goes Fits text next Ended mid more end
      → Goes Fits text next Ended s (things ++ more) end
  goes-append s mid end [] more first second = subst (λ (q : S). Goes Fits text next Ended q more end) (sym first) second
  goes-append s mid end (i ∷ things) more first second = (first.0, goes-append (next s i) mid end things more first.1 second)

  pub row_text-append : (s mid : S) (things more : List I) → Goes Fits text next Ended s things mid
      → row_text Fits text next Ended s (things ++ more) ≡ row_text Fits text next Ended s things ++ row_text Fits text next Ended mid more
  row_text-append s mid [] more goes = ap (λ (q : S). row_text Fits text next Ended q more) goes
  row_text-append s mid (i ∷ things) more goes =
      ap (λ (l : List ℕ). 1 ∷ (text s i ++ l)) (row_text-append (next s i) mid things more goes.1)
      ∙ ap (λ (l : List ℕ). 1 ∷ l) (sym (append_assoc (text s i) (row_text Fits text next Ended (next s i) things) (row_text Fits text next Ended mid more)))

  -- one thing more behind a row, and a closed gate behind it
  pub row-more : (s mid : S) (things : List I) (i : I) (gate : ℕ) (rest : List ℕ) → Goes Fits text next Ended s things mid → Fits mid i → gate ≢ 1
      → IsRow Fits text next Ended s (things ++ i ∷ []) (next mid i) (row_text Fits text next Ended s things ++ (1 ∷ (text mid i ++ (gate ∷ rest))))
  row-more s mid things i gate rest goes fits shut = record {
    goes = goes-append s mid (next mid i) things (i ∷ []) goes (fits, refl);
    gate = gate;
    rest = rest;
    is = ap (λ (l : List ℕ). row_text Fits text next Ended s things ++ (1 ∷ l)) (ap (λ (l : List ℕ). l ++ (gate ∷ rest)) (sym (append-nil (text mid i))))
        ∙ sym (append_assoc (row_text Fits text next Ended s things) (1 ∷ (text mid i ++ [])) (gate ∷ rest))
        ∙ ap (λ (l : List ℕ). l ++ (gate ∷ rest)) (sym (row_text-append s mid things (i ∷ []) goes));
    stops = λ one. absurd (shut one);
  }

  -- Bytes begin with one row at most, where they tell the things that fit from each other, and none fits at the end.
  module _ (told : (s : S) (i j : I) (x y : List ℕ) → Fits s i → Fits s j → text s i ++ x ≡ text s j ++ y → (i ≡ j) × (x ≡ y))
      (more_due : (s : S) (i : I) → Fits s i → Ended s → ⊥) where
    -- a row whose first things stand at the front goes on behind them
    pub row-on : (s mid end : S) (things all : List I) (tail : List ℕ) → Goes Fits text next Ended s things mid
        → IsRow Fits text next Ended s all end (row_text Fits text next Ended s things ++ tail)
        → (more : List I) × (all ≡ things ++ more) × IsRow Fits text next Ended mid more end tail
    row-on s mid end [] all tail goes row = (all, refl, subst (λ (q : S). IsRow Fits text next Ended q all end tail) goes row)
    row-on s mid end (i ∷ things) [] tail goes row =
        let both = same_heads 1 row.gate _ _ row.is in
        absurd (more_due s i goes.0 (subst Ended (sym row.goes) (row.stops (sym both.0))))
    row-on s mid end (i ∷ things) (j ∷ all) tail goes row = step (told s i j _ _ goes.0 row.goes.0 cut) (λ after. row-on (next s i) mid end things all tail goes.1 after)
      where
        here : List ℕ
        here = row_text Fits text next Ended (next s i) things ++ tail

        there : List ℕ
        there = row_text Fits text next Ended (next s j) all ++ (row.gate ∷ row.rest)

        cut : text s i ++ here ≡ text s j ++ there
        cut =
            sym (append_assoc (text s i) (row_text Fits text next Ended (next s i) things) tail)
            ∙ (same_heads 1 1 _ _ row.is).1
            ∙ append_assoc (text s j) (row_text Fits text next Ended (next s j) all) (row.gate ∷ row.rest)

        step : (i ≡ j) × (here ≡ there)
            → (IsRow Fits text next Ended (next s i) all end here → (more : List I) × (all ≡ things ++ more) × IsRow Fits text next Ended mid more end tail)
            → (more : List I) × (j ∷ all ≡ (i ∷ things) ++ more) × IsRow Fits text next Ended mid more end tail
        step both deeper =
            let after : IsRow Fits text next Ended (next s i) all end here = record {
              goes = subst (λ (q : I). Goes Fits text next Ended (next s q) all end) (sym both.0) row.goes.1;
              gate = row.gate;
              rest = row.rest;
              is = both.1 ∙ ap (λ (q : I). row_text Fits text next Ended (next s q) all ++ (row.gate ∷ row.rest)) (sym both.0);
              stops = row.stops;
            } in
            let further = deeper after in
            (further.0, ap (λ (q : I). q ∷ all) (sym both.0) ∙ ap (λ (l : List I). i ∷ l) further.1, further.2)

    -- of two runs of things at the front of the same bytes one goes on behind the other
    pub rows-compare : (s mid end : S) (things all : List I) (x y : List ℕ) → Goes Fits text next Ended s things mid → Goes Fits text next Ended s all end
        → row_text Fits text next Ended s things ++ x ≡ row_text Fits text next Ended s all ++ y
        → ((more : List I) × Goes Fits text next Ended mid more end × (x ≡ row_text Fits text next Ended mid more ++ y))
        ⊎ ((more : List I) × Goes Fits text next Ended end more mid × (y ≡ row_text Fits text next Ended end more ++ x))
    rows-compare s mid end [] all x y goes other eq =
        inl (all, subst (λ (q : S). Goes Fits text next Ended q all end) goes other, eq ∙ ap (λ (q : S). row_text Fits text next Ended q all ++ y) goes)
    rows-compare s mid end (i ∷ things) [] x y goes other eq =
        inr (
          i ∷ things,
          subst (λ (q : S). Goes Fits text next Ended q (i ∷ things) mid) other goes,
          sym eq ∙ ap (λ (q : S). row_text Fits text next Ended q (i ∷ things) ++ x) other,
        )
    rows-compare s mid end (i ∷ things) (j ∷ all) x y goes other eq =
        let cut : text s i ++ (row_text Fits text next Ended (next s i) things ++ x) ≡ text s j ++ (row_text Fits text next Ended (next s j) all ++ y) =
        sym (append_assoc (text s i) (row_text Fits text next Ended (next s i) things) x)
        ∙ (same_heads 1 1 _ _ eq).1
        ∙ append_assoc (text s j) (row_text Fits text next Ended (next s j) all) y in
        let both = told s i j _ _ goes.0 other.0 cut in
        rows-compare (next s i) mid end things all x y goes.1 (subst (λ (q : I). Goes Fits text next Ended (next s q) all end) (sym both.0) other.1)
        (both.1 ∙ ap (λ (q : I). row_text Fits text next Ended (next s q) all ++ y) (sym both.0))

    pub row-once : (s end end' : S) (things all : List I) (bytes : List ℕ) → IsRow Fits text next Ended s things end bytes
        → IsRow Fits text next Ended s all end' bytes → (all ≡ things) × (end' ≡ end)
    row-once s end end' things all bytes one other =
        let on = row-on s end end' things all (one.gate ∷ one.rest) one.goes (subst (IsRow Fits text next Ended s all end') one.is other) in
        stop on.0 on.1 on.2
      where
        stop : (more : List I) → all ≡ things ++ more → IsRow Fits text next Ended end more end' (one.gate ∷ one.rest) → (all ≡ things) × (end' ≡ end)
        stop [] is row = (is ∙ append-nil things, sym row.goes)
        stop (i ∷ more) is row = absurd (more_due end i row.goes.0 (one.stops (same_heads one.gate 1 _ _ row.is).0))
