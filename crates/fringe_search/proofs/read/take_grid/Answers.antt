use Rattle.std.proofs.Common.{◌++◌, ◌∷◌, [], decimal}
use Rattle.fringe_search.proofs.TakenLines.{rates_in, divide_in, grid_made}
use Rattle.fringe_search.proofs.read.take_grid.Goals as goal

pub returns-in_err-words : goal.returns-in_err-words
returns-in_err-words c = rw c.from_residual.ensures (λ g rest e. c.in_err-words.ensures ((decimal g.rates ++ 32 ∷ (decimal g.divide ++ 10 ∷ [])) ++ rest) e)

pub returns-in_err-rates : goal.returns-in_err-rates
returns-in_err-rates c = rw c.from_residual-in_err-rates.ensures (λ g rest e. c.in_err-rates.ensures.taken g.rates (decimal g.divide ++ 10 ∷ rest) (rates_in g c.args.text.now c.in_ok-words.words.now rest c.in_ok-words.ensures e))

pub returns-in_err-divide : goal.returns-in_err-divide
returns-in_err-divide c = rw c.from_residual-in_err-divide.ensures (λ g rest e.
    let words = c.in_ok-words.words.now in
    let rates = c.in_ok-rates.ensures.one g.rates (decimal g.divide ++ 10 ∷ rest) (rates_in g c.args.text.now words rest c.in_ok-words.ensures e) in
    c.in_err-divide.ensures.taken g.divide rest (divide_in g c.in_ok-rates.rates c.args.text.now words c.in_ok-rates.later.now rest c.in_ok-words.ensures e c.in_ok-rates.ensures.taken rates))

pub returns-in_err-grid : goal.returns-in_err-grid
returns-in_err-grid c = rw c.from_residual-in_err-grid.ensures (λ g rest e.
    let words = c.in_ok-words.words.now in
    let rates = c.in_ok-rates.ensures.one g.rates (decimal g.divide ++ 10 ∷ rest) (rates_in g c.args.text.now words rest c.in_ok-words.ensures e) in
    let divide = c.in_ok-divide.ensures.one g.divide rest (divide_in g c.in_ok-rates.rates c.args.text.now words c.in_ok-rates.later.now rest c.in_ok-words.ensures e c.in_ok-rates.ensures.taken rates) in
    c.in_err-grid.ensures g (record { rates_is = rates; divide_is = divide }))

pub returns : goal.returns
returns c =
    grid_made c.in_ok-grid.grid c.in_ok-rates.rates c.in_ok-divide.divide c.args.text.now c.in_ok-words.words.now c.in_ok-rates.later.now c.in_ok-divide.rest.now c.in_ok-words.ensures
    c.in_ok-rates.ensures.taken
    c.in_ok-divide.ensures.taken
    c.in_ok-grid.ensures
