use Rattle.col_document.proofs.plain.take_cells.Goals as goal

pub returns-in_ok-take_array-in-Int8 : goal.returns-in_ok-take_array-in-Int8
returns-in_ok-take_array-in-Int8 c levels =
    rw c.in-Int8.is (c.in_ok-take_array-in-Int8.ensures levels)

pub returns-in_ok-take_array-in-Int16 : goal.returns-in_ok-take_array-in-Int16
returns-in_ok-take_array-in-Int16 c levels =
    rw c.in-Int16.is (c.in_ok-take_array-in-Int16.ensures levels)

pub returns-in_ok-take_array-in-Int32 : goal.returns-in_ok-take_array-in-Int32
returns-in_ok-take_array-in-Int32 c levels =
    rw c.in-Int32.is (c.in_ok-take_array-in-Int32.ensures levels)

pub returns-in_ok-take_array-in-Int64 : goal.returns-in_ok-take_array-in-Int64
returns-in_ok-take_array-in-Int64 c levels =
    rw c.in-Int64.is (c.in_ok-take_array-in-Int64.ensures levels)

pub returns-in_ok-take_array-in-UInt8 : goal.returns-in_ok-take_array-in-UInt8
returns-in_ok-take_array-in-UInt8 c levels =
    rw c.in-UInt8.is (c.in_ok-take_array-in-UInt8.ensures levels)

pub returns-in_ok-take_array-in-UInt16 : goal.returns-in_ok-take_array-in-UInt16
returns-in_ok-take_array-in-UInt16 c levels =
    rw c.in-UInt16.is (c.in_ok-take_array-in-UInt16.ensures levels)

pub returns-in_ok-take_array-in-UInt32 : goal.returns-in_ok-take_array-in-UInt32
returns-in_ok-take_array-in-UInt32 c levels =
    rw c.in-UInt32.is (c.in_ok-take_array-in-UInt32.ensures levels)

pub returns-in_ok-take_array-in-UInt64 : goal.returns-in_ok-take_array-in-UInt64
returns-in_ok-take_array-in-UInt64 c levels =
    rw c.in-UInt64.is (c.in_ok-take_array-in-UInt64.ensures levels)
