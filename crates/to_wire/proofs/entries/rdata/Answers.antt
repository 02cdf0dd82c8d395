-- `to_wire::entries::rdata` meets its contract: RDATA, its length and its octets.
use Rattle.to_wire.specs.Reading.{rdata_read}
use Rattle.to_wire.proofs.entries.rdata.Goals as goal

pub returns : goal.returns
returns c = rdata_read c.in_ok-c.ensures.read c.rdata_fits.ensures c.demand-c.ensures c.count-size.ensures.value
    c.to_be_bytes.ensures c.emit-c.ensures c.put_hex.ensures
