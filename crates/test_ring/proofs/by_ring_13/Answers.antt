use mathlib.Core.Path.{◌∙◌}
use Rattle.test_ring.specs.Exchanging.{product_lt, exchanged_product}
use Rattle.test_ring.proofs.by_ring_13.Goals as goal

pub exchange_bits-requires-3 : goal.exchange_bits-requires-3
exchange_bits-requires-3 c =
    product_lt _ _ _ c.exchange_bits.ensures.1 c.exchange_bits-2.ensures.1 c.product-in_13.ensures

pub returns : goal.returns
returns c =
    c.exchange_bits-3.ensures.0
    ∙ exchanged_product _ _ _ c.exchange_bits.ensures.1 c.exchange_bits-2.ensures.1 c.product-in_13.ensures _ _ c.exchange_bits.ensures.0 c.exchange_bits-2.ensures.0
