mod Difference
